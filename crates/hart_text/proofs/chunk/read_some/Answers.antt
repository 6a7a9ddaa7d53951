use Rattle.std.proofs.Common.{append-nil, arith, []}
use Rattle.hart_text.proofs.lemmas.Items.{begins_reads}
use Rattle.hart_text.proofs.chunk.read_some.Goals as goal

pub returns-in-None-clause-reads : goal.returns-in-None-clause-reads
returns-in-None-clause-reads g c =
    let read = begins_reads c.args.text.now c.in_ok-lead.lead.char c.in_ok-lead.lead.len in
    record { bytes = []; items = grind arith; added = grind (arith, append-nil) }
