-- The fields of each command's data, and how data are split into fields (HCF_SPEC-127).
use Prim.Native.String.{String}
use Rattle.std.specs.Prelude.{ℕ, ◌+◌, ◌-◌, ◌==◌, nat_lt, if◌then◌else◌, List, [], ◌∷◌, codes, length, map, take, drop, Option, None, Some}
use Rattle.std.specs.List.{flat_map}
use Rattle.std.specs.Option.{option_map, option_map_or}
use Rattle.hart_commands.specs.declared.fields.FieldKind.{FieldKind}
use Rattle.hart_commands.specs.declared.fields.FieldKind.TheVariants.{Bytes, Number, UnitCode, PackedText, LatinText, Date, Float}
use Rattle.hart_commands.specs.declared.fields.FieldKind.TheVariants.{Variables}
use Rattle.hart_commands.specs.declared.fields.FieldRow.{FieldRow}
use Rattle.hart_commands.specs.declared.fields.FieldSize.{FieldSize}
use Rattle.hart_commands.specs.declared.fields.FieldSize.TheVariants.{Exactly, AllBut}

-- The bytes of a name.
unfoldable pub text : String → List ℕ
text name = codes name

-- A byte of a name in words: a space for `_` (the byte 95), and otherwise the byte itself.
abbrev pub spaced : ℕ → ℕ
spaced code = if code == 95 then 32 else code

-- A row of a table of fields: the name of a field, the same name in words, the size and the kind of the field.
pub record Row : Type 0 where
  pub name : List ℕ
  pub words : List ℕ
  pub size : FieldSize
  pub kind : FieldKind

-- The row of a field.
abbrev pub field : String → FieldSize → FieldKind → Row
field name size kind = record { name = text name; words = map spaced (text name); size = size; kind = kind }

-- The least number of bytes of a field: its exact size, or 1 for a size of `AllBut`.
abbrev pub least : FieldSize → ℕ
least (Exactly size) = size
least (AllBut after) = 1

-- The least number of bytes that fields have together.
abbrev pub total : List Row → ℕ
total [] = 0
total (row ∷ others) = least row.size + total others

-- The fields of an identity, of which the first byte is 254 (Commands 0, 11 and 21).
abbrev pub identity : List Row
identity =
    field "first_byte" (Exactly 1) Number
    ∷ field "expanded_device_type" (Exactly 2) Bytes
    ∷ field "preamble_bytes_of_a_request" (Exactly 1) Number
    ∷ field "protocol_revision" (Exactly 1) Number
    ∷ field "device_revision" (Exactly 1) Number
    ∷ field "software_revision" (Exactly 1) Number
    ∷ field "hardware_revision_and_signalling_code" (Exactly 1) Bytes
    ∷ field "flags" (Exactly 1) Bytes
    ∷ field "device_id" (Exactly 3) Bytes
    ∷ field "preamble_bytes_of_a_response" (Exactly 1) Number
    ∷ field "greatest_number_of_device_variables" (Exactly 1) Number
    ∷ field "configuration_change_counter" (Exactly 2) Number
    ∷ field "extended_device_status" (Exactly 1) Bytes
    ∷ field "manufacturer" (Exactly 2) Number
    ∷ field "private_label_distributor" (Exactly 2) Number
    ∷ field "device_profile" (Exactly 1) Number
    ∷ []

-- The fields of the primary variable (Command 1).
abbrev pub primary : List Row
primary =
    field "primary_variable_unit" (Exactly 1) UnitCode
    ∷ field "primary_variable" (Exactly 4) Float
    ∷ []

-- The fields of the loop current and the percent of range (Command 2).
abbrev pub current : List Row
current =
    field "loop_current" (Exactly 4) Float
    ∷ field "percent_of_range" (Exactly 4) Float
    ∷ []

-- The loop current, and the fields of up to four dynamic variables (Command 3).
abbrev pub dynamic : List Row
dynamic =
    field "loop_current" (Exactly 4) Float
    ∷ field "primary_variable_unit" (Exactly 1) UnitCode
    ∷ field "primary_variable" (Exactly 4) Float
    ∷ field "secondary_variable_unit" (Exactly 1) UnitCode
    ∷ field "secondary_variable" (Exactly 4) Float
    ∷ field "tertiary_variable_unit" (Exactly 1) UnitCode
    ∷ field "tertiary_variable" (Exactly 4) Float
    ∷ field "quaternary_variable_unit" (Exactly 1) UnitCode
    ∷ field "quaternary_variable" (Exactly 4) Float
    ∷ []

-- The polling address and the loop current mode; older masters leave out the mode (Commands 6 and 7).
abbrev pub polling : List Row
polling =
    field "polling_address" (Exactly 1) Number
    ∷ field "loop_current_mode" (Exactly 1) Number
    ∷ []

-- The classification of each dynamic variable (Command 8).
abbrev pub classes : List Row
classes =
    field "primary_variable_classification" (Exactly 1) Number
    ∷ field "secondary_variable_classification" (Exactly 1) Number
    ∷ field "tertiary_variable_classification" (Exactly 1) Number
    ∷ field "quaternary_variable_classification" (Exactly 1) Number
    ∷ []

-- The extended device status, the device variables that were asked for, and their time stamp (Command 9).
abbrev pub variables : List Row
variables =
    field "extended_device_status" (Exactly 1) Bytes
    ∷ field "device_variables" (AllBut 4) Variables
    ∷ field "time_stamp" (Exactly 4) Bytes
    ∷ []

-- The message (Commands 12 and 17).
abbrev pub message : List Row
message = field "message" (Exactly 24) PackedText ∷ []

-- The tag, the descriptor and the date (Commands 13 and 18).
abbrev pub tag_and_more : List Row
tag_and_more =
    field "tag" (Exactly 6) PackedText
    ∷ field "descriptor" (Exactly 12) PackedText
    ∷ field "date" (Exactly 3) Date
    ∷ []

-- The fields of the sensor (Command 14).
abbrev pub sensor : List Row
sensor =
    field "serial_number" (Exactly 3) Bytes
    ∷ field "unit" (Exactly 1) UnitCode
    ∷ field "upper_limit" (Exactly 4) Float
    ∷ field "lower_limit" (Exactly 4) Float
    ∷ field "minimum_span" (Exactly 4) Float
    ∷ []

-- The fields of the loop current output (Command 15).
abbrev pub output : List Row
output =
    field "alarm_code" (Exactly 1) Number
    ∷ field "transfer_function" (Exactly 1) Number
    ∷ field "unit" (Exactly 1) UnitCode
    ∷ field "upper_range_value" (Exactly 4) Float
    ∷ field "lower_range_value" (Exactly 4) Float
    ∷ field "damping" (Exactly 4) Float
    ∷ field "write_protect_code" (Exactly 1) Number
    ∷ field "reserved_byte" (Exactly 1) Number
    ∷ field "channel_flags" (Exactly 1) Bytes
    ∷ []

-- The final assembly number (Commands 16 and 19).
abbrev pub assembly : List Row
assembly = field "final_assembly_number" (Exactly 3) Bytes ∷ []

-- The long tag (Commands 20, 21 and 22).
abbrev pub long_tag : List Row
long_tag = field "long_tag" (Exactly 32) LatinText ∷ []

-- The configuration change counter (Command 38).
abbrev pub counter : List Row
counter = field "configuration_change_counter" (Exactly 2) Number ∷ []

-- How many of the `left` bytes a field takes. `Exactly size` takes `size` bytes. `AllBut after` takes all bytes except the last `after`
-- bytes, and needs at least one byte before these. If there are too few bytes, the result is `None`.
abbrev pub size_in : FieldSize → ℕ → Option ℕ
size_in (Exactly size) left = if nat_lt left size then None else Some size
size_in (AllBut after) left = if nat_lt after left then Some (left - after) else None

-- The bytes of a field of this size at the front of some bytes, and the bytes after the field, or `None` if there are too few bytes.
abbrev pub split : FieldSize → List ℕ → Option (List ℕ × List ℕ)
split size bytes = option_map (λ n. (take n bytes, drop n bytes)) (size_in size (length bytes))

-- A field of data has a name, the same name in words, a kind and its bytes.
pub record Field : Type 0 where
  pub name : List ℕ
  pub words : List ℕ
  pub kind : FieldKind
  pub bytes : List ℕ

-- The fields of these rows in some bytes, one after another from the first byte on. If there are too few bytes for a row, this row and all
-- rows after it have no field.
abbrev pub fields_of : List Row → List ℕ → List Field
fields_of [] bytes = []
fields_of (row ∷ others) bytes =
    option_map_or (λ parts. record { name = row.name; words = row.words; kind = row.kind; bytes = parts.0 } ∷ fields_of others parts.1)
    (split row.size bytes) []

-- The bytes of each field.
abbrev pub field_bytes : List Field → List (List ℕ)
field_bytes fields = map (λ field. field.bytes) fields

-- The bytes of fields, one after another.
abbrev pub bytes_of : List Field → List ℕ
bytes_of fields = flat_map (λ field. field.bytes) fields

-- The row of a field in Rust, as a `Row` of the definitions.
abbrev pub seen : FieldRow → Row
seen row = record { name = row.name.now; words = row.words.now; size = row.size; kind = row.kind }
