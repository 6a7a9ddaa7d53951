use Rattle.std.proofs.Common.{arith, inl, inr, refl}
use Rattle.std.proofs.lemmas.Grind.{common_steps}
use Rattle.hart_c.specs.FrameMaster.{HasLimits}
use Rattle.hart_c.specs.declared.fault.Fault.TheVariants.{BadMaster}
use Rattle.hart_c.proofs.frame_master.hart_new_master.Goals as goal

pub returns-in_default : goal.returns-in_default
returns-in_default c =
    let bad : HasLimits c.args.retries c.args.reply_limit → ⊥ = grind (arith, common_steps) in
    inr (BadMaster, inl (bad, refl), c.number_of_result.ensures, refl)
