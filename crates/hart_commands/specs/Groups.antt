-- Values that stand together in data: an identity, a sensor, a loop current output, and a tag with its descriptor and date (HCF_SPEC-127).
use Rattle.std.specs.Prelude.{ℕ, List, [], ◌∷◌, drop, slice_index, slice_range, take}
use Rattle.hart_commands.specs.declared.identity.IdentityContent.{IdentityContent}
use Rattle.hart_commands.specs.declared.output.OutputContent.{OutputContent}
use Rattle.hart_commands.specs.declared.sensor.SensorContent.{SensorContent}
use Rattle.hart_commands.specs.Values.{float_at, joined, one}

-- The identity in 22 bytes: after the first byte, each of its fields has a fixed place.
abbrev pub identity_of : List ℕ → IdentityContent
identity_of bytes = record {
  expanded_device_type = slice_range bytes 1 3;
  request_preambles = slice_index bytes 3;
  protocol_revision = slice_index bytes 4;
  device_revision = slice_index bytes 5;
  software_revision = slice_index bytes 6;
  hardware_and_signalling = slice_index bytes 7;
  flags = slice_index bytes 8;
  device_id = slice_range bytes 9 12;
  response_preambles = slice_index bytes 12;
  device_variables = slice_index bytes 13;
  configuration_change_counter = slice_range bytes 14 16;
  extended_device_status = slice_index bytes 16;
  manufacturer = slice_range bytes 17 19;
  private_label_distributor = slice_range bytes 19 21;
  device_profile = slice_index bytes 21;
}

-- The parts of an identity: the byte 254, and its fields.
abbrev pub identity_parts : IdentityContent → List (List ℕ)
identity_parts i =
    one 254 ∷ i.expanded_device_type
    ∷ one i.request_preambles ∷ one i.protocol_revision ∷ one i.device_revision ∷ one i.software_revision
    ∷ one i.hardware_and_signalling ∷ one i.flags ∷ i.device_id
    ∷ one i.response_preambles ∷ one i.device_variables ∷ i.configuration_change_counter
    ∷ one i.extended_device_status ∷ i.manufacturer ∷ i.private_label_distributor ∷ one i.device_profile
    ∷ []

-- The bytes of an identity are its parts, one after another.
abbrev pub identity_bytes : IdentityContent → List ℕ
identity_bytes identity = joined (identity_parts identity)

-- The sensor in 16 bytes: a serial number, a unit, the upper and the lower limit, and the minimum span.
abbrev pub sensor_of : List ℕ → SensorContent
sensor_of bytes = record {
  serial_number = slice_range bytes 0 3;
  unit = slice_index bytes 3;
  upper_limit = float_at bytes 4;
  lower_limit = float_at bytes 8;
  minimum_span = float_at bytes 12;
}

-- The parts of a sensor.
abbrev pub sensor_parts : SensorContent → List (List ℕ)
sensor_parts s = s.serial_number ∷ one s.unit ∷ s.upper_limit.0 ∷ s.lower_limit.0 ∷ s.minimum_span.0 ∷ []

-- The bytes of a sensor are its parts, one after another.
abbrev pub sensor_bytes : SensorContent → List ℕ
sensor_bytes sensor = joined (sensor_parts sensor)

-- The loop current output in 18 bytes: an alarm code, a transfer function, a unit, the upper and the lower range value, and the damping.
-- Then come a write protect code, a byte that the standard reserves, and channel flags.
abbrev pub output_of : List ℕ → OutputContent
output_of bytes = record {
  alarm_code = slice_index bytes 0;
  transfer_function = slice_index bytes 1;
  unit = slice_index bytes 2;
  upper_range_value = float_at bytes 3;
  lower_range_value = float_at bytes 7;
  damping = float_at bytes 11;
  write_protect_code = slice_index bytes 15;
  reserved = slice_index bytes 16;
  channel_flags = slice_index bytes 17;
}

-- The parts of a loop current output.
abbrev pub output_parts : OutputContent → List (List ℕ)
output_parts o =
    one o.alarm_code ∷ one o.transfer_function ∷ one o.unit
    ∷ o.upper_range_value.0 ∷ o.lower_range_value.0 ∷ o.damping.0
    ∷ one o.write_protect_code ∷ one o.reserved ∷ one o.channel_flags
    ∷ []

-- The bytes of a loop current output are its parts, one after another.
abbrev pub output_bytes : OutputContent → List ℕ
output_bytes output = joined (output_parts output)

-- A tag, a descriptor and a date stand one after another in 21 bytes. The tag is the first 6 bytes.
abbrev pub tag_in : List ℕ → List ℕ
tag_in bytes = take 6 bytes

-- The descriptor is the 12 bytes after the tag.
abbrev pub descriptor_in : List ℕ → List ℕ
descriptor_in bytes = take 12 (drop 6 bytes)

-- The date is the 3 bytes after the descriptor.
abbrev pub date_in : List ℕ → List ℕ
date_in bytes = take 3 (drop 18 bytes)
