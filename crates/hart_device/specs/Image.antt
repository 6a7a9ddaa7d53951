-- The image of a device: the bytes that are kept of the device while it is stopped, and the state that is read from them (implementation
-- choice).
use Rattle.std.specs.Prelude.{◌≡◌, ◌≢◌, ℕ, ◌+◌, ◌-◌, ◌<◌, ◌^◌, ◌⊎◌, Bool, if◌then◌else◌, ◌==◌, Option, Some, None, List, [], ◌∷◌, ◌++◌}
use Rattle.std.specs.Prelude.{length, drop, replicate, slice_index, false}
use Rattle.std.specs.List.{Contains, flat_map, sum_by}
use Rattle.hart_values.specs.packed_text.Packing.{IsPacked}
use Rattle.hart_values.specs.declared.each_master.EachMaster.{EachMaster}
use Rattle.hart_commands.specs.Registers.{AreValid, IsValidIn, bytes_in, registers, size_of}
use Rattle.hart_commands.specs.declared.register.Register.{Register}
use Rattle.hart_commands.specs.declared.register.Register.TheVariants.{Polling, Mode, Message, Tag, Descriptor, Date, Assembly, LongTag}
use Rattle.hart_device.specs.declared.fault.DeviceFault.{DeviceFault}
use Rattle.hart_device.specs.declared.fault.DeviceFault.TheVariants.{BadField, BadLength, BadVersion}
use Rattle.hart_device.specs.Bits.{bit_if}
use Rattle.hart_device.specs.Device.{DeviceState, for_both}
use Rattle.hart_device.specs.Identity.{two_bytes}
use Rattle.hart_device.specs.Registers.{standing_for, values_of}
use Rattle.hart_device.specs.declared.identity_parts.IdentityParts.{IdentityParts}
use Rattle.hart_device.specs.declared.image.ImageParts.{ImageParts}

-- The flags of an image: bit 0 is the primary master's configuration-changed bit, bit 1 the secondary master's, and bit 2 the write
-- protection of the device. The other bits are zero.
abbrev pub flags_of : EachMaster Bool → Bool → ℕ
flags_of changed protected =
    bit_if changed.primary 1 + bit_if changed.secondary 2 + bit_if protected 4

-- The registers in an image of version 1, in order: all except the long tag.
abbrev pub registers_of_version_1 : List Register
registers_of_version_1 = Polling ∷ Mode ∷ Message ∷ Tag ∷ Descriptor ∷ Date ∷ Assembly ∷ []

-- The registers in an image of this version. Version 1 has all registers except the long tag, and version 2 has all registers. Other
-- versions are not known.
abbrev pub registers_of_version : ℕ → Option (List Register)
registers_of_version version =
    if version == 1 then Some registers_of_version_1
    else if version == 2 then Some registers
    else None

-- The long tag that follows from a tag: the text of the tag, followed by 24 spaces.
abbrev pub IsLongTagOf : List ℕ → List ℕ → Type 0
IsLongTagOf tag long_tag = (text : List ℕ) × IsPacked text tag × (long_tag ≡ text ++ replicate 24 0x20)

-- An image ends with the configuration change counter in two bytes, the most significant first, and the flags.
abbrev pub image_ending : DeviceState → List ℕ
image_ending state = two_bytes state.counter ++ flags_of state.changed state.protected ∷ []

-- An image consists of its version number, the bytes of its registers in their order, and its ending.
abbrev pub image_bytes : ℕ → List Register → DeviceState → List ℕ
image_bytes version listed state = version ∷ (flat_map (bytes_in state.contents) listed ++ image_ending state)

-- Bytes are an image of a device's state if `image_bytes` writes them for this state in a known version. Every register of the state must
-- also hold valid bytes, and its counter must be below 65536. If images of that version have no long tag, the state's long tag must follow
-- from its tag (`IsLongTagOf`). An image has neither the identity of the device nor its cold start bits.
pub record IsImageOf (state : DeviceState) (image : List ℕ) : Type 0 where
  pub contents : AreValid state.contents
  pub counter : state.counter < 2 ^ 16
  pub version : ℕ
  pub listed : List Register
  pub known : registers_of_version version ≡ Some listed
  pub long_tag : (¬ Contains listed LongTag) → IsLongTagOf state.contents.tag state.contents.long_tag
  pub written : image ≡ image_bytes version listed state

-- Bytes are an image if they are an image of some state.
abbrev pub IsImage : List ℕ → Type 0
IsImage image = (state : DeviceState) × IsImageOf state image

-- A device writes its image in version 2.
abbrev pub image_of : DeviceState → List ℕ
image_of state = image_bytes 2 registers state

-- The length of an image: one byte for its version, the bytes of its registers, two bytes for the counter and one byte for the flags.
abbrev pub image_length : List Register → ℕ
image_length listed = 1 + sum_by size_of listed + 2 + 1

-- Whether an array holds invalid bytes for at least one of these registers.
abbrev pub HasBadRegister : List Register → List ℕ → Type 0
HasBadRegister listed array = (register : Register) × Contains listed register × ¬ IsValidIn register (standing_for register array)

-- An image with these registers has a bad field if a register has invalid bytes, or if the last byte, the flags, is above 7.
abbrev pub HasBadField : List Register → List ℕ → Type 0
HasBadField listed image = HasBadRegister listed (drop 1 image) ⊎ (7 < slice_index image (length image - 1))

-- Bytes are refused as an image for the first of these reasons that applies: there are no bytes (a bad length); the version is not known;
-- images of this version have another length; a field is bad.
abbrev pub IsImageFault : List ℕ → DeviceFault → Type 0
IsImageFault [] BadLength = Unit {0}
IsImageFault (version ∷ rest) BadVersion = registers_of_version version ≡ None
IsImageFault (version ∷ rest) BadLength =
    (listed : List Register) × (registers_of_version version ≡ Some listed) × (length (version ∷ rest) ≢ image_length listed)
IsImageFault (version ∷ rest) BadField =
    (listed : List Register) × (registers_of_version version ≡ Some listed) × (length (version ∷ rest) ≡ image_length listed)
    × HasBadField listed (version ∷ rest)
IsImageFault _ _ = ⊥

-- The state of a device with this identity, these parts and clear cold start bits.
abbrev pub state_with : IdentityParts → ImageParts → DeviceState
state_with identity parts = record {
  identity = identity;
  contents = values_of parts.values;
  counter = parts.counter;
  changed = parts.flags.changed;
  protected = parts.flags.protected;
  cold_start = for_both false;
}
