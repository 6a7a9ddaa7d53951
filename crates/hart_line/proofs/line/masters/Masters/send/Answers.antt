use Rattle.hart_line.proofs.Common.{Primary, Secondary}
use Rattle.hart_line.proofs.line.masters.Masters.send.Goals as goal

pub returns-in-Primary : goal.returns-in-Primary
returns-in-Primary c = λ retries hands held.
    let sends = c.send.ensures Primary retries.primary hands.primary held.primary in
    rw c.in-Primary.is (sends.0, (sends.1, held.secondary))

pub returns-in-Secondary : goal.returns-in-Secondary
returns-in-Secondary c = λ retries hands held.
    let sends = c.send-in-Secondary.ensures Secondary retries.secondary hands.secondary held.secondary in
    rw c.in-Secondary.is (sends.0, (sends.1, held.primary))
