use Rattle.std.proofs.lemmas.List.{take_rest}
use Rattle.hart_device.proofs.lemmas.answer.Garbled.{at_start}
use Rattle.hart_device.proofs.answer.garbled.garbled_in.Goals as goal

pub returns-in_err-first_start : goal.returns-in_err-first_start
returns-in_err-first_start c =
    rw c.from_residual.ensures (λ request has. c.in_err-first_start.ensures has.start has.first_start.start)

pub returns : goal.returns
returns c =
    at_start c.args.identity.now c.args.delivery.now _ _ c.in_ok-first_start.ensures
    (rw (take_rest c.args.delivery.now _) at c.garbled_at.ensures)
