use Rattle.std.proofs.Common.{◌≡◌, ◌≤◌, Bool, Err, arith, inl, inr, rules}
use Rattle.std.proofs.lemmas.Grind.{common_steps}
use Rattle.hart_values.specs.declared.each_master.EachMaster.{EachMaster}
use Rattle.hart_device.specs.Identity.{AreIdentityParts}
use Rattle.hart_device.specs.Image.{IsImageFault, IsImageOf}
use Rattle.hart_device.specs.declared.fault.DeviceFault.{DeviceFault}
use Rattle.hart_device.proofs.lemmas.Laws.{devices_are_kept_whole-any_cold_start}
use Rattle.hart_c.specs.Device.{image_in}
use Rattle.hart_c.specs.Numbers.{parts_of}
use Rattle.hart_c.specs.declared.fault.Fault.TheVariants.{Device}
use Rattle.hart_c.proofs.device.kept_state.Goals as goal

pub returns-in_err-state-clause-refused : goal.returns-in_err-state-clause-refused
returns-in_err-state-clause-refused c =
    let told = c.in_err-state.field-0.0 in
    let is : c.from_residual-in_err-state.result ≡ Err told = grind (arith, common_steps) in
    let who : AreIdentityParts (parts_of c.args.identity.now) = first_of (search rules, grind (arith, common_steps)) in
    let fits : c.args.device.now.image_len ≤ 86 = grind (arith, common_steps) in
    let why : (fault : DeviceFault) × IsImageFault (image_in c.args.device.now) fault × (told ≡ Device fault) =
    first_of (search rules, grind (arith, common_steps)) in
    rw is (inr (who, inr (fits, inl why)))

pub returns-clause-kept : goal.returns-clause-kept
returns-clause-kept c =
    let image = image_in c.args.device.now in
    let made : IsImageOf c.in_ok-state.state image = grind (arith, common_steps) in
    let bits : EachMaster Bool =
    record { primary = c.args.device.now.primary_cold_start; secondary = c.args.device.now.secondary_cold_start } in
    search (rules, devices_are_kept_whole-any_cold_start c.in_ok-state.state image bits made)
