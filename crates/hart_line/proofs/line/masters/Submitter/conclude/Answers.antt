use Rattle.hart_line.proofs.Common.{arith, common_steps}
use Rattle.hart_line.proofs.line.masters.Submitter.conclude.Goals as goal

pub returns-in-Some-clause-concludes : goal.returns-in-Some-clause-concludes
returns-in-Some-clause-concludes c = λ id retries held awaits.
    let heard = c.in-Some.ensures.awaited id retries held awaits in grind (arith, common_steps)

pub returns-in-Some-stop_waiting-clause-concludes : goal.returns-in-Some-stop_waiting-clause-concludes
returns-in-Some-stop_waiting-clause-concludes c = λ id retries held awaits.
    let unanswered = c.in_default.ensures.awaited id retries held awaits in
    let given_up = c.stop_waiting.ensures id retries held unanswered.1 in grind (arith, common_steps)

pub returns-in_default-stop_waiting-clause-concludes : goal.returns-in_default-stop_waiting-clause-concludes
returns-in_default-stop_waiting-clause-concludes c = λ id retries held awaits.
    let unanswered = c.in_default.ensures.awaited id retries held awaits in
    let given_up = c.stop_waiting.ensures id retries held unanswered.1 in grind (arith, common_steps)
