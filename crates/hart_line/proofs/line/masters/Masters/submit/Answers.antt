use Rattle.hart_line.proofs.Common.{arith, common_steps, Primary, Secondary}
use Rattle.hart_line.proofs.line.masters.Masters.submit.Goals as goal

pub returns-in-Primary-clause-submits : goal.returns-in-Primary-clause-submits
returns-in-Primary-clause-submits c = λ retries hands held.
    let submits = c.submit.ensures.submits Primary retries.primary hands.primary held.primary in
    rw c.in-Primary.is (grind (arith, common_steps))

pub returns-in-Secondary-clause-submits : goal.returns-in-Secondary-clause-submits
returns-in-Secondary-clause-submits c = λ retries hands held.
    let submits = c.submit-in-Secondary.ensures.submits Secondary retries.secondary hands.secondary held.secondary in
    rw c.in-Secondary.is (grind (arith, common_steps))
