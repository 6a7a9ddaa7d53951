-- What the caller keeps of a device.
use Rattle.std.proofs.Common.{◌≡◌, ◌≢◌, refl, ◌∙◌, ap, arith, length, sym, take, ℕ, List}
use Rattle.std.proofs.Math.Seq.{take-length}
use Rattle.std.proofs.lemmas.Grind.{common_steps}
use Rattle.hart_commands.specs.Registers.{registers}
use Rattle.hart_device.specs.Device.{DeviceState, IsDevice}
use Rattle.hart_device.specs.Identity.{AreIdentityParts, IsIdentityFault}
use Rattle.hart_device.specs.declared.fault.DeviceFault.{DeviceFault}
use Rattle.hart_device.specs.declared.fault.DeviceFault.TheVariants.{BadLength}
use Rattle.hart_device.specs.declared.identity_parts.IdentityParts.{IdentityParts}
use Rattle.hart_device.specs.Image.{IsImageFault, image_of}
use Rattle.hart_device.proofs.lemmas.Laws.{devices_are_kept_whole-either_version, images_have_no_fault, devices_are_kept_whole-image}
use Rattle.hart_c.specs.Device.{IsKept, device_of, image_in, state_checks}
use Rattle.hart_c.specs.Faults.{needs_or}
use Rattle.hart_c.specs.Numbers.{parts_of}
use Rattle.hart_c.specs.declared.device.HartDevice.{HartDevice}
use Rattle.hart_c.specs.declared.fault.Fault.TheVariants.{Device}
use Rattle.hart_c.specs.declared.identity.HartIdentity.{HartIdentity}
use Rattle.hart_c.proofs.Checks.{AreSound, IsSound, needs-sound}

-- an image of version 2 has 86 bytes, so all of it is kept
pub devices_are_kept-kept : (state : DeviceState) → IsDevice state → IsKept state.identity (device_of state) state
devices_are_kept-kept state is =
    let image = devices_are_kept_whole-image state is in
    let fault : (length (image_of state) ≢ 86) → ⊥ =
    λ wrong. images_have_no_fault state (image_of state) BadLength image (registers, refl, wrong) in
    let long : length (image_of state) ≡ 86 = grind (arith, fault) in
    let all : image_in (device_of state) ≡ image_of state =
    ap (λ (n : ℕ). take n (image_of state)) (sym long) ∙ take-length (image_of state) in
    grind (arith, common_steps, image)

pub devices_are_kept-one_state : (parts : IdentityParts) (device : HartDevice) (state other : DeviceState) → IsKept parts device state
    → IsKept parts device other → state ≡ other
devices_are_kept-one_state parts device state other is again =
    grind (arith, devices_are_kept_whole-either_version state other (image_in device) is.image again.image)

-- the checks of a kept device are sound, since an image has at most one fault
pub state_sound : ((image : List ℕ) (fault other : DeviceFault) → IsImageFault image fault → IsImageFault image other → fault ≡ other)
    → (identity : HartIdentity) (device : HartDevice) → AreSound (state_checks identity device)
state_sound one identity device =
    let who : IsSound
    (needs_or (AreIdentityParts (parts_of identity)) (IsIdentityFault (parts_of identity)) Device) =
    record { one = λ fault other why because. grind arith; not_both = λ fault is why. grind arith } in
    let kept : IsSound
    (needs_or ((state : DeviceState) × IsKept (parts_of identity) device state) (IsImageFault (image_in device)) Device) = record {
      one = λ fault other why because. grind (arith, one);
      not_both = λ fault is why. grind (arith, images_have_no_fault is.0 (image_in device));
    } in
    (who, (needs-sound _ _, (kept, tt)))
