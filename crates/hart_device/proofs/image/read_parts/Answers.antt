use Rattle.std.proofs.Common.{◌≤◌, inr, slice_index, arith}
use Rattle.std.proofs.lemmas.Grind.{common_steps}
use Rattle.hart_device.proofs.image.read_parts.Goals as goal

pub returns-in_err-flags-clause-refused : goal.returns-in_err-flags-clause-refused
returns-in_err-flags-clause-refused c =
    let above : slice_index c.args.ending.now 2 ≤ 7 → ⊥ = λ within. let no = c.in_err-flags.ensures.accepted.1 within in cc in
    rw c.from_residual-in_err-flags.ensures (inr (omega (arith, above)))

pub returns-clause-ending : goal.returns-clause-ending
returns-clause-ending c = grind (arith, common_steps)
