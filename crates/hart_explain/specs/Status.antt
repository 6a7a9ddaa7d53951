-- The two status bytes of a reply, in words and as members of an object of JSON (HCF_SPEC-099; implementation choice).
use Rattle.std.specs.Prelude.{◌==◌, not, nat_lt, bit_and, if◌then◌else◌, ◌++◌, [], ◌∷◌, ℕ, Bool, List, codes, map}
use Rattle.std.specs.List.{flat_map}
use Rattle.serde_json.specs.Data.{Data, null, string}
use Rattle.hart_commands.specs.Codes.{code_name}
use Rattle.hart_commands.specs.StatusBits.{NamedBit, comm_faults, device_states}
use Rattle.hart_explain.specs.Header.{named_number}
use Rattle.hart_explain.specs.Json.{Named, count, hex, list_of, name_or_null, named}
use Rattle.hart_explain.specs.Words.{said_line}

-- Whether a bit is set in a byte: the bitwise AND of the byte and the bit's value is not 0.
abbrev pub is_set : ℕ → NamedBit → Bool
is_set byte bit = not (bit_and byte bit.value == 0)

-- The names of the bits of a table that are set in a byte, in the order of the table.
abbrev pub set_names : ℕ → List NamedBit → List (List ℕ)
set_names byte bits = flat_map (λ bit. if is_set byte bit then bit.name ∷ [] else []) bits

-- Names, with a comma and a space between two of them, or `none` if there are no names.
abbrev pub names_words : List (List ℕ) → List ℕ
names_words [] = codes "none"
names_words (name ∷ others) = name ++ flat_map (λ further. codes ", " ++ further) others

-- The lines of the two status bytes. If bit 7 of the first byte is clear, that byte is the response code to the command, and the second is
-- the device status. If bit 7 is set, the first byte has communication faults, and nothing is said of the second.
abbrev pub status_lines : (command first second : ℕ) → List ℕ
status_lines command first second =
    if nat_lt first 128
    then said_line (codes "response code") (named_number first (code_name command first))
    ++ said_line (codes "device status") (names_words (set_names second device_states))
    else said_line (codes "communication faults") (names_words (set_names first comm_faults))

-- Names as a list of strings.
abbrev pub names_value : List (List ℕ) → Data
names_value names = list_of (map string names)

-- The members of two status bytes of which the first is below 128. The first is the response code to the command, and the second is the
-- device status.
abbrev pub response_members : (command first second : ℕ) → List Named
response_members command first second =
    named "response_code" (count first)
    ∷ named "response" (name_or_null (code_name command first))
    ∷ named "device_status" (names_value (set_names second device_states))
    ∷ named "communication_faults" null
    ∷ []

-- The members of a first status byte of 128 or more. It has communication faults. There is no response code then, and the device status is
-- not known.
abbrev pub fault_members : ℕ → List Named
fault_members first =
    named "response_code" null
    ∷ named "response" null
    ∷ named "device_status" null
    ∷ named "communication_faults" (names_value (set_names first comm_faults))
    ∷ []

-- The members of the two status bytes of a reply.
abbrev pub status_members : (command first second : ℕ) → List Named
status_members command first second =
    named "status" (hex (first ∷ second ∷ []))
    ∷ (if nat_lt first 128 then response_members command first second else fault_members first)
