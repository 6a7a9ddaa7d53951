use Rattle.std.proofs.Common.{◌≡◌, ◌-◌, ◌<◌, ◌≤◌, ◌++◌, ◌∷◌, [], ℕ, List, arith, length, append_assoc, slice_index, take}
use Rattle.std.proofs.Math.Seq.{drop-append_seam, take-append_seam}
use Rattle.std.proofs.lemmas.Grind.{common_steps}
use Rattle.std.proofs.lemmas.List.{take-append-drop}
use Rattle.std.specs.List.{flat_map}
use Rattle.hart_commands.specs.Registers.{bytes_in}
use Rattle.hart_commands.specs.declared.register.Register.TheVariants.{Mode, Polling}
use Rattle.hart_device.specs.Device.{DeviceState}
use Rattle.hart_device.specs.Identity.{two_bytes}
use Rattle.hart_device.specs.declared.identity_parts.IdentityParts.{IdentityParts}
use Rattle.hart_device.specs.Image.{flags_of}
use Rattle.hart_c.specs.Device.{IsKept}
use Rattle.hart_c.specs.declared.device.HartDevice.{HartDevice}
use Rattle.hart_c.proofs.laws.kept_bytes_are_what_they_say.Goals as goal

-- the kept bytes are the bytes before the last one, and then the flags in the last byte
last_is : (image front : List ℕ) (len flags : ℕ) → length image ≡ 86 → len ≤ 86 → take len image ≡ front ++ flags ∷ []
    → (0 < len) × (take (len - 1) image ≡ front) × (slice_index image (len - 1) ≡ flags)
last_is image front len flags long fits written =
    grind (arith, common_steps, take-append_seam front (flags ∷ []), drop-append_seam front (flags ∷ []))

-- the kept bytes of a device are version, registers and counter, and then the flags
flagged : (parts : IdentityParts) (device : HartDevice) (state : DeviceState) (is : IsKept parts device state) → length device.image ≡ 86
    → (0 < device.image_len) × (take (device.image_len - 1) device.image
    ≡ is.image.version ∷ (flat_map (bytes_in state.contents) is.image.listed ++ two_bytes state.counter))
    × (slice_index device.image (device.image_len - 1) ≡ flags_of state.changed state.protected)
flagged parts device state is long =
    let front = is.image.version ∷ (flat_map (bytes_in state.contents) is.image.listed ++ two_bytes state.counter) in
    last_is device.image front device.image_len _ long is.fits (grind (arith, common_steps, append_assoc, flat_map, is.image.written))

pub returns-clause-protects : goal.returns-clause-protects
returns-clause-protects c parts device state on long is =
    grind (arith, common_steps, flagged parts device state is long, append_assoc, flat_map)

pub returns-clause-protected : goal.returns-clause-protected
returns-clause-protected c parts device state long is = rw (flagged parts device state is long).2 (grind arith)

-- a list of one byte consists of its first byte
one_byte : (xs : List ℕ) → length xs ≡ 1 → xs ≡ slice_index xs 0 ∷ []
one_byte xs long = grind (arith, common_steps)

pub returns-clause-registers : goal.returns-clause-registers
returns-clause-registers c parts device state long is =
    let polling = one_byte state.contents.polling (is.image.contents Polling).0 in
    let mode = one_byte state.contents.mode (is.image.contents Mode).0 in
    grind (arith, polling, mode, is.image.known, take-append-drop device.image_len device.image)
