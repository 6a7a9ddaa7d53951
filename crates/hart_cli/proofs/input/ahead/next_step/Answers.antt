use Rattle.std.proofs.Common.{IsTrue}
use Rattle.hart_text.specs.Items.{MayBegin}
use Rattle.hart_cli.proofs.lemmas.input.Decoded.{read_on, step_by}
use Rattle.hart_cli.proofs.input.ahead.next_step.Goals as goal

pub returns-clause-step : goal.returns-clause-step
returns-clause-step c =
    let may = c.may_begin.ensures.may in
    step_by (λ _. IsTrue c.may_begin.result) MayBegin c.args.rest.now may.0 (λ never begins. never (may.1 begins)) c.args.end _
    c.step_from.result c.step_from.ensures

pub returns-clause-short : goal.returns-clause-short
returns-clause-short c is =
    c.may_begin.ensures.short (read_on (λ _. IsTrue c.may_begin.result) c.args.end c.args.rest.now _ (rw is at c.step_from.ensures)).1
