use Rattle.std.proofs.Common.{arith, inl, inr, refl}
use Rattle.std.proofs.lemmas.Grind.{common_steps}
use Rattle.hart_device.specs.declared.fault.DeviceFault.TheVariants.{BadField}
use Rattle.hart_c.specs.declared.fault.Fault.TheVariants.{Device}
use Rattle.hart_c.proofs.device.hart_new_device.Goals as goal

pub returns-in_default : goal.returns-in_default
returns-in_default c =
    inr (Device BadField, inl (λ valid. grind (arith, common_steps), refl), grind (arith, common_steps), refl)
