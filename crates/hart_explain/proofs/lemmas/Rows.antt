-- The rows of the table of commands, and the bytes that they take.
use Rattle.std.proofs.Common.{◌≡◌, ◌+◌, ℕ, true, List, Some, arith, drop, length, length-drop}
use Rattle.std.proofs.lemmas.Bool.Decides.{nat_tests}
use Rattle.std.proofs.lemmas.Grind.{common_steps}
use Rattle.std.proofs.lemmas.List.{length-take-le}
use Rattle.hart_commands.specs.Commands.{reply_rows, request_rows}
use Rattle.hart_commands.specs.Fields.{size_in, split}
use Rattle.hart_commands.specs.WellMade.{are_well_made}
use Rattle.hart_commands.specs.declared.fields.FieldSize.{FieldSize}
use Rattle.hart_commands.proofs.lemmas.WellMade.{request_rows-are}
use Rattle.hart_commands.proofs.lemmas.WellMade.{the_table_is_well_made-replies, the_table_is_well_made-requests}

-- the rows of each command are well made
pub rows-fit : (command : ℕ) → (are_well_made (request_rows command) ≡ true) × (are_well_made (reply_rows command) ≡ true)
rows-fit command =
    ((request_rows-are (request_rows command) (the_table_is_well_made-requests command)).0, the_table_is_well_made-replies command)

-- a field is as long as its size says, and all other bytes come after it
pub split-is : (size : FieldSize) (bytes field after : List ℕ) → split size bytes ≡ Some (field, after)
    → (size_in size (length bytes) ≡ Some (length field)) × (length field + length after ≡ length bytes)
    × (after ≡ drop (length field) bytes)
split-is size bytes field after is = grind (arith, common_steps, nat_tests, length-take-le, length-drop)

-- the rule by which a row of fields takes its bytes from the front
pub ruleset taken_off = (split-is)
