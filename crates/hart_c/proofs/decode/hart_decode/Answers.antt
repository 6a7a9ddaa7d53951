use Rattle.std.proofs.Common.{arith, inl, inr, refl}
use Rattle.hart_c.specs.declared.fault.Fault.TheVariants.{Frame}
use Rattle.hart_c.proofs.decode.hart_decode.Goals as goal

pub returns-in-Err : goal.returns-in-Err
returns-in-Err c =
    let told = c.number_of_frame_fault.ensures in
    inr (Frame c.in-Err.fault, inl (c.in-Err.fault, c.in-Err.ensures.refused, refl), grind (arith, told), refl)
