use Rattle.std.proofs.Common.{arith}
use Rattle.hart_explain.proofs.lemmas.SightingLengths.{header-fits}
use Rattle.hart_explain.proofs.words.header.push_header.Goals as goal

pub returns-clause-few : goal.returns-clause-few
returns-clause-few c =
    header-fits (record { kind = c.args.kind; master = c.args.master; address = c.args.address; command = c.args.command })
    c.push_who.ensures.short (omega arith)
