use Rattle.std.proofs.Common.{◌≢◌, ◌≤◌, ◌==◌, ℕ, List, [], ◌∷◌, Option, None, Some, IfSome, length, arith, rules}
use Rattle.std.proofs.lemmas.Bool.Decides.{nat_tests}
use Rattle.std.proofs.lemmas.Grind.{common_steps}
use Rattle.std.proofs.lemmas.List.Elements.{All-from_recursion}
use Rattle.std.proofs.lemmas.Option.{slice_get_cases}
use Rattle.std.specs.List.{AllByRecursion, find}
use Rattle.std.specs.Option.{option_map}
use Rattle.hart_commands.specs.Codes.{code_name}
use Rattle.hart_commands.specs.Commands.{Command, commands}
use Rattle.hart_commands.specs.Fields.{Row, fields_of, text}
use Rattle.hart_commands.specs.StatusBits.{NamedBit, comm_fault_name, comm_faults, device_state_name, device_states, name_of}
use Rattle.hart_commands.specs.Units.{UnitRow, unit_name, unit_row, units}
use Rattle.hart_commands.proofs.lemmas.Rows.{of_known}
use Rattle.hart_c.specs.Data.{NameOutcome}
use Rattle.hart_c.specs.declared.fault.HartOutcome.{HartOutcome}
use Rattle.hart_c.proofs.laws.sixteen_fields_and_names_of_64_bytes_have_room.Goals as goal

-- the words of a row have at most 64 bytes
abbrev IsShort : Row → Type 0
IsShort row = length row.words ≤ 64

-- a command with few fields and short names
abbrev IsSmall : Command → Type 0
IsSmall command =
    (length command.name ≤ 64) × (length command.request ≤ 16) × (length command.reply ≤ 16)
    × AllByRecursion IsShort command.request × AllByRecursion IsShort command.reply

all_small : AllByRecursion (λ row. IsSmall row.command) commands
unfolding text
all_small = search rules

-- there are no more fields than rows
few : (these : List Row) (bytes : List ℕ) → length (fields_of these bytes) ≤ length these
few [] bytes = search rules
few (row ∷ these) bytes = grind (arith, few these)

pub returns-clause-requests : goal.returns-clause-requests
returns-clause-requests c command bytes before after told outcome = grind (arith, few, of_known IsSmall command all_small)

pub returns-clause-replies : goal.returns-clause-replies
returns-clause-replies c command payload before after told outcome = grind (arith, few, of_known IsSmall command all_small)

pub returns-clause-command_names : goal.returns-clause-command_names
returns-clause-command_names c command before after outcome room named = grind (arith, of_known IsSmall command all_small)

pub returns-clause-field_names : goal.returns-clause-field_names
returns-clause-field_names c is_reply command index before after outcome room named =
    grind (arith, slice_get_cases, All-from_recursion, of_known IsSmall command all_small)

-- a name of at most 64 bytes has room in 64 bytes
fits : (name : Option (List ℕ)) (before after : List ℕ) (outcome : HartOutcome) → IfSome name (λ text. length text ≤ 64)
    → 64 ≤ length before → NameOutcome name before after outcome → outcome.fault ≢ 12
fits None before after outcome short room named = grind arith
fits (Some name) before after outcome short room named = grind arith

-- the row of a table of units that is found has a short name if all its rows have
short_unit : (rows : List UnitRow) (code : ℕ) → AllByRecursion (λ row. length row.name ≤ 64) rows
    → IfSome (option_map (λ row. row.name) (find (λ row. row.code == code) rows)) (λ text. length text ≤ 64)
short_unit [] code all = tt
short_unit (row ∷ rows) code all = grind (arith, short_unit rows code all.1)

all_short : AllByRecursion (λ row. length row.name ≤ 64) units
unfolding text
all_short = search rules

pub returns-clause-unit_names : goal.returns-clause-unit_names
unfolding unit_row
returns-clause-unit_names c unit before after outcome room named =
    fits (unit_name unit) before after outcome (short_unit units unit all_short) room named

-- response codes have short names
short_code : (command code : ℕ) → IfSome (code_name command code) (λ text. length text ≤ 64)
short_code command code = grind (arith, common_steps, nat_tests)

pub returns-clause-code_names : goal.returns-clause-code_names
returns-clause-code_names c command code before after outcome room named =
    fits (code_name command code) before after outcome (short_code command code) room named

-- the bits of a table have short names if all its rows have
short_bit : (bits : List NamedBit) (value : ℕ) → AllByRecursion (λ bit. length bit.name ≤ 64) bits
    → IfSome (name_of bits value) (λ text. length text ≤ 64)
short_bit [] value all = tt
short_bit (bit ∷ bits) value all = grind (arith, short_bit bits value all.1)

pub returns-clause-status_names : goal.returns-clause-status_names
returns-clause-status_names c bit before after outcome room named =
    fits (device_state_name bit) before after outcome (short_bit device_states bit (search rules)) room named

pub returns-clause-comm_fault_names : goal.returns-clause-comm_fault_names
returns-clause-comm_fault_names c bit before after outcome room named =
    fits (comm_fault_name bit) before after outcome (short_bit comm_faults bit (search rules)) room named
