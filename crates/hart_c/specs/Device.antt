-- The device that a caller in C keeps, and how the calls change it (implementation choice).
use Rattle.std.specs.Prelude.{◌≡◌, ◌≤◌, ◌+◌, ◌-◌, ◌%◌, ◌++◌, if◌then◌else◌, ℕ, Bool, List, [], ◌∷◌, Option, None, Some, length, map}
use Rattle.std.specs.Prelude.{slice_index, slice_set, take}
use Rattle.hart_frame.specs.{wire.FrameParts.FrameParts, wire.Message.IsMessage}
use Rattle.hart_commands.specs.Registers.{AreValid}
use Rattle.hart_device.specs.Image.{IsImageFault, IsImageOf, image_of}
use Rattle.hart_device.specs.answer.Delivery.{Brings, Brought, answer_to, state_after_delivery}
use Rattle.hart_device.specs.declared.fault.DeviceFault.TheVariants.{BadField, BadLength}
use Rattle.hart_device.specs.Identity.{AreIdentityParts, IsIdentityFault}
use Rattle.hart_device.specs.{Device.DeviceState, Device.new_device, declared.process.Process.Process, Registers.values_of}
use Rattle.hart_device.specs.{declared.identity_parts.IdentityParts.IdentityParts, declared.registers.values.RegisterValues.RegisterValues}
use Rattle.hart_c.specs.declared.fault.Fault.TheVariants.{BadVariables, Device, NoRoom}
use Rattle.hart_c.specs.Faults.{AllPass, Check, Outcome, needs, needs_or, outcome_of, refused_if}
use Rattle.hart_c.specs.Numbers.{HasVariables, IsProcessOf, contents_of, parts_of}
use Rattle.hart_c.specs.{Find.char_of, Find.heard_checks, Messages.HasNoRoom, Messages.IsWritten}
use Rattle.hart_c.specs.declared.{device.HartDevice.HartDevice, find.HartChar.HartChar, process.HartProcess.HartProcess}
use Rattle.hart_c.specs.declared.{fault.HartOutcome.HartOutcome, identity.HartIdentity.HartIdentity, registers.HartRegisters.HartRegisters}

-- The image in a kept device is the first `image_len` bytes of its array.
abbrev pub image_in : HartDevice → List ℕ
image_in device = take device.image_len device.image

-- A kept device with this identity has this state. `image_len` is at most 86, the kept image is an image of the state, and both have the
-- same cold start bits.
pub record IsKept (parts : IdentityParts) (device : HartDevice) (state : DeviceState) : Type 0 where
  pub is_identity : AreIdentityParts parts
  pub identity : state.identity ≡ parts
  pub fits : device.image_len ≤ 86
  pub image : IsImageOf state (image_in device)
  pub cold_start : state.cold_start ≡ record { primary = device.primary_cold_start; secondary = device.secondary_cold_start }

-- What the caller keeps of a state: its image, in version 2, and its cold start bits.
abbrev pub device_of : DeviceState → HartDevice
device_of state = record {
  image = image_of state;
  image_len = 86;
  primary_cold_start = state.cold_start.primary;
  secondary_cold_start = state.cold_start.secondary;
}

-- A kept device with its write protection set or cleared. Write protection is bit 2 of the last byte of the image, the flags. The bits
-- above bit 2 become 0.
abbrev pub with_protection : Bool → HartDevice → HartDevice
with_protection protected device =
    let last = device.image_len - 1 in
    record device { image = slice_set device.image last (slice_index device.image last % 4 + (if protected then 4 else 0)) }

-- The call writes to `device` what the caller keeps of a new device with these registers, and returns 86. What is written does not depend
-- on the device's identity. If a register would hold invalid bytes, the call returns a fault, and `device` is unchanged.
abbrev pub NewDeviceOutcome : HartRegisters → HartDevice → HartDevice → HartOutcome → Type 0
NewDeviceOutcome given before after =
    Outcome (needs (AreValid (contents_of given)) (Device BadField) ∷ [])
    (λ len. (len ≡ 86) × (values : RegisterValues) × (values_of values ≡ contents_of given) × AreValid (contents_of given)
    × ((parts : IdentityParts) → after ≡ device_of (new_device parts values))) (after ≡ before) outcome_of

-- The conditions for a device to hear a delivery. The kept device has a state, and the `HartProcess` describes a process. The delivery
-- passes its checks, and brings the device a frame, a garbled request or no message.
pub record IsHearing (identity : HartIdentity) (process : HartProcess) (heard : List HartChar) (device : HartDevice) : Type 0 where
  pub state : DeviceState
  pub measured : Process
  pub brought : Brought
  pub kept : IsKept (parts_of identity) device state
  pub process_is : IsProcessOf process measured
  pub delivery : AllPass (heard_checks heard)
  pub brings : Brings (parts_of identity) (map char_of heard) brought

-- What a device sends: the message of its reply, or no byte if the device is silent.
abbrev pub IsSaid : Option FrameParts → ℕ → List ℕ → Type 0
IsSaid None preambles bytes = bytes ≡ []
IsSaid (Some reply) preambles bytes = IsMessage reply preambles bytes

-- A device sends its answer to what a delivery brings, and is then in the state after that delivery. If the device is silent, its
-- state is unchanged.
pub record Hears (identity : HartIdentity) (process : HartProcess) (heard : List HartChar) (before after : HartDevice)
    (old new : List ℕ) (len : ℕ) : Type 0 where
  pub hearing : IsHearing identity process heard before
  pub reply : IsWritten (IsSaid (answer_to hearing.state hearing.measured hearing.brought) identity.response_preambles) old new len
  pub state : after ≡ device_of (state_after_delivery hearing.state hearing.brought)
  pub kept : IsKept (parts_of identity) after (state_after_delivery hearing.state hearing.brought)
  pub silent : len ≡ 0 → state_after_delivery hearing.state hearing.brought ≡ hearing.state

-- The checks of a kept device, in this order: the identity is in range; the image has at most 86 bytes; the kept device has a state.
abbrev pub state_checks : HartIdentity → HartDevice → List Check
state_checks identity device =
    needs_or (AreIdentityParts (parts_of identity)) (IsIdentityFault (parts_of identity)) Device
    ∷ needs (device.image_len ≤ 86) (Device BadLength)
    ∷ needs_or ((state : DeviceState) × IsKept (parts_of identity) device state) (IsImageFault (image_in device)) Device ∷ []

-- The checks of `hart_hear`, in this order: the checks of the device; the process has one to four dynamic variables; the checks of the
-- characters; the reply fits.
abbrev pub hear_checks : HartIdentity → HartProcess → List HartChar → HartDevice → ℕ → List Check
hear_checks identity process heard device room =
    state_checks identity device ++ needs (HasVariables process) BadVariables
    ∷ heard_checks heard ++ refused_if ((hearing : IsHearing identity process heard device)
    × HasNoRoom (IsSaid (answer_to hearing.state hearing.measured hearing.brought) identity.response_preambles) room) NoRoom ∷ []

-- Either the device has heard the delivery, and the call returns the length of the reply. Or the call returns a fault, and the kept device
-- and the output are unchanged.
abbrev pub HearOutcome : HartIdentity → HartProcess → List HartChar → HartDevice → HartDevice → List ℕ → List ℕ → HartOutcome → Type 0
HearOutcome identity process heard before after old new =
    Outcome (hear_checks identity process heard before (length old)) (Hears identity process heard before after old new)
    ((after ≡ before) × (new ≡ old)) outcome_of
