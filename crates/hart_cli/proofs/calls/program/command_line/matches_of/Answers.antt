use Rattle.std.proofs.Common.{◌∙◌, ap, subst, sym, map, string_bytes}
use Rattle.std.proofs.lemmas.Result.{err_from_is_err_and}
use Rattle.clap.specs.Words.{App, HasKind, fault_of, is_simple, is_simple_and_free, subcommand_of}
use Rattle.hart_cli.proofs.calls.program.command_line.matches_of.Goals as goal

pub returns-in_err-matches-clause-refused : goal.returns-in_err-matches-clause-refused
returns-in_err-matches-clause-refused c =
    let given = err_from_is_err_and c.from_residual-in_err-matches.result c.from_residual-in_err-matches.ensures.1 in
    let is = c.in_ok-hart_command.ensures in
    rw (given.1, given.2)
    (subst (λ (a : App). HasKind (fault_of a (map string_bytes c.args.words.now)) c.in_err-matches.field-0.0) is
    (c.in_err-matches.ensures.kinds (ap is_simple_and_free is)))

pub returns-clause-fits : goal.returns-clause-fits
returns-clause-fits c =
    let words = map string_bytes c.args.words.now in
    let is = c.in_ok-hart_command.ensures in
    ap (λ a. fault_of a words) (sym is) ∙ c.in_ok-matches.ensures.kinds (ap is_simple_and_free is)

pub returns-clause-matches : goal.returns-clause-matches
returns-clause-matches c =
    let words = map string_bytes c.args.words.now in
    let is = c.in_ok-hart_command.ensures in
    (c.in_ok-matches.ensures.matches (ap is_simple is)).1 ∙ ap (λ a. subcommand_of a words) is
