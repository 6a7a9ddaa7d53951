use Rattle.hart_line.proofs.Common.{arith, common_steps, Primary, Secondary}
use Rattle.hart_line.proofs.line.masters.Masters.end_turn.Goals as goal

pub returns-in-Primary-clause-ends : goal.returns-in-Primary-clause-ends
returns-in-Primary-clause-ends c = λ retries hands. rw c.in-Primary.is (λ turn.
    let done = c.conclude.ensures.concludes Primary retries.primary hands.primary turn.0 in
    record { accepted = done.accepted; accepts = done.accepts; outcomes_are = done.outcomes_are; left = grind (arith, common_steps) })

pub returns-in-Secondary-clause-ends : goal.returns-in-Secondary-clause-ends
returns-in-Secondary-clause-ends c = λ retries hands. rw c.in-Secondary.is (λ turn.
    let done = c.conclude-in-Secondary.ensures.concludes Secondary retries.secondary hands.secondary turn.0 in
    record { accepted = done.accepted; accepts = done.accepts; outcomes_are = done.outcomes_are; left = grind (arith, common_steps) })
