use Rattle.std.proofs.Common.{IsTrue}
use Rattle.hart_text.specs.Heard.{NothingBegins}
use Rattle.hart_text.specs.Items.{Opens}
use Rattle.hart_cli.proofs.lemmas.input.Decoded.{read_on, step_by}
use Rattle.hart_cli.proofs.input.ahead.next_heard_step.Goals as goal

pub returns-clause-step : goal.returns-clause-step
returns-clause-step c =
    let may = c.may_open.ensures.may in
    step_by (λ _. IsTrue c.may_open.result) (Opens NothingBegins) c.args.rest.now may.0 (λ never opens. never (may.1 opens)) c.args.end _
    c.step_from.result c.step_from.ensures

pub returns-clause-short : goal.returns-clause-short
returns-clause-short c is =
    c.may_open.ensures.short (read_on (λ _. IsTrue c.may_open.result) c.args.end c.args.rest.now _ (rw is at c.step_from.ensures)).1
