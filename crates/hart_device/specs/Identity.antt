-- The identity of a device (HCF_SPEC-127), from the numbers that it is made with.
use Rattle.std.specs.Prelude.{◌≡◌, ℕ, ◌+◌, ◌*◌, ◌/◌, ◌%◌, ◌^◌, ◌<◌, List, [], ◌∷◌}
use Rattle.hart_values.specs.address.DeviceNumbers.{DeviceNumbers}
use Rattle.hart_values.specs.address.AddressBytes.{broadcast}
use Rattle.hart_values.specs.declared.address.Address.TheVariants.{Unique}
use Rattle.hart_frame.specs.wire.Message.{IsPreambleCount}
use Rattle.hart_commands.specs.declared.identity.IdentityContent.{IdentityContent}
use Rattle.hart_device.specs.declared.identity_parts.IdentityParts.{IdentityParts}
use Rattle.hart_device.specs.declared.fault.DeviceFault.{DeviceFault}
use Rattle.hart_device.specs.declared.fault.DeviceFault.TheVariants.{BroadcastAddress, OutOfRange}

-- The parts of an identity are in range if the device id has at most 24 bits, both numbers of preamble bytes are 5 to 20, the hardware
-- revision has at most 5 bits, and the physical signalling code at most 3 bits.
pub record AreInRange (parts : IdentityParts) : Type 0 where
  pub device_id : parts.device_id < 2 ^ 24
  pub request_preambles : IsPreambleCount parts.request_preambles
  pub response_preambles : IsPreambleCount parts.response_preambles
  pub hardware_revision : parts.hardware_revision < 32
  pub signalling_code : parts.signalling_code < 8

-- The numbers of the device's unique address are the lower 14 bits of the device's expanded device type, and the device id.
abbrev pub own_numbers : IdentityParts → DeviceNumbers
own_numbers parts = record { expanded_type = parts.expanded_device_type % 2 ^ 14; device_id = parts.device_id }

-- Parts make an identity if they are in range and the device's unique address is not the broadcast address.
pub record AreIdentityParts (parts : IdentityParts) : Type 0 where
  pub in_range : AreInRange parts
  pub own_address : ¬ (Unique (own_numbers parts) ≡ broadcast)

-- Why parts are refused. `OutOfRange`: they are not in range. `BroadcastAddress`: they are in range, but the device's unique address is the
-- broadcast address.
abbrev pub IsIdentityFault : IdentityParts → DeviceFault → Type 0
IsIdentityFault parts OutOfRange = ¬ AreInRange parts
IsIdentityFault parts BroadcastAddress = AreInRange parts × (Unique (own_numbers parts) ≡ broadcast)
IsIdentityFault parts _ = ⊥

-- A number below 65536 in two bytes, the most significant first.
abbrev pub two_bytes : ℕ → List ℕ
two_bytes n = n / 256 ∷ n % 256 ∷ []

-- A number below 16777216 in three bytes, the most significant first.
abbrev pub three_bytes : ℕ → List ℕ
three_bytes n = n / 65536 ∷ n / 256 % 256 ∷ n % 256 ∷ []

-- The identity content of a reply, with this configuration change counter and this extended device status. The major revision of
-- the protocol is 7. The hardware revision stands in the upper five bits of the byte that it shares with the signalling code.
abbrev pub identity_content : IdentityParts → ℕ → ℕ → IdentityContent
identity_content parts counter extended_device_status = record {
  expanded_device_type = two_bytes parts.expanded_device_type;
  request_preambles = parts.request_preambles;
  protocol_revision = 7;
  device_revision = parts.device_revision;
  software_revision = parts.software_revision;
  hardware_and_signalling = 8 * parts.hardware_revision + parts.signalling_code;
  flags = parts.flags;
  device_id = three_bytes parts.device_id;
  response_preambles = parts.response_preambles;
  device_variables = parts.device_variables;
  configuration_change_counter = two_bytes counter;
  extended_device_status = extended_device_status;
  manufacturer = two_bytes parts.manufacturer;
  private_label_distributor = two_bytes parts.private_label_distributor;
  device_profile = parts.device_profile;
}
