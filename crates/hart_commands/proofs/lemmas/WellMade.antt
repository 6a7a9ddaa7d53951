-- The table of commands is well made.
use Rattle.std.proofs.Common.{◌≡◌, ◌≤◌, ℕ, Bool, true, IfSome, List, arith, bytes_eq, length, map, rules}
use Rattle.std.proofs.lemmas.Bool.{and_parts, leb-true}
use Rattle.std.proofs.lemmas.Bool.Decides.{nat_tests}
use Rattle.std.proofs.lemmas.Grind.{common_steps}
use Rattle.std.proofs.lemmas.List.{length-map}
use Rattle.std.proofs.lemmas.Slice.Eq.{bytes_eq-Decides}
use Rattle.std.specs.List.{AllByRecursion, list_all}
use Rattle.std.specs.Prelude.{◌&&◌, nat_le}
use Rattle.hart_commands.specs.Commands.{Command, command_name, commands, known, reply_rows, request_rows}
use Rattle.hart_commands.specs.Fields.{Row, spaced, text}
use Rattle.hart_commands.specs.RequestData.{needed_data}
use Rattle.hart_commands.specs.WellMade.{are_request_rows, are_well_made, is_command_name, is_well_made, leave_nothing}
use Rattle.hart_commands.specs.WellMade.{suits_size}
use Rattle.hart_commands.proofs.lemmas.Rows.{of_known}

-- whether the rows of a command are well made, its name is one of a command, and it needs at most 255 bytes
command_is : Command → Bool
command_is command =
    are_request_rows command.request && are_well_made command.reply && is_command_name command.name && nat_le command.needed 255

each_is : AllByRecursion (λ row. command_is row.command ≡ true) commands
unfolding command_is text
each_is = search rules

known-is : (command : ℕ) → IfSome (known command) (λ found. (found.number ≡ command) × (command_is found ≡ true))
known-is command = of_known (λ found. command_is found ≡ true) command each_is

pub the_table_is_well_made-requests : (command : ℕ) → are_request_rows (request_rows command) ≡ true
unfolding command_is
the_table_is_well_made-requests command = grind (arith, common_steps, nat_tests, known-is command)

pub the_table_is_well_made-replies : (command : ℕ) → are_well_made (reply_rows command) ≡ true
unfolding command_is
the_table_is_well_made-replies command = grind (arith, common_steps, nat_tests, known-is command)

pub the_table_is_well_made-names : (command : ℕ) → IfSome (command_name command) (λ name. is_command_name name ≡ true)
unfolding command_is
the_table_is_well_made-names command = grind (arith, common_steps, nat_tests, known-is command)

pub the_table_is_well_made-needed : (command : ℕ) → needed_data command ≤ 255
unfolding command_is known
the_table_is_well_made-needed command = grind (arith, common_steps, nat_tests, known-is command)

-- what is known of a well made row
pub record IsKnown (row : Row) : Type 0 where
  pub name_short : length row.name ≤ 40
  pub words_long : length row.words ≡ length row.name
  pub suits : suits_size row.kind row.size ≡ true

same : (words name : List ℕ) → bytes_eq words (map spaced name) ≡ true → words ≡ map spaced name
same words name is = grind (arith, bytes_eq-Decides words (map spaced name))

pub row-is : (row : Row) → is_well_made row ≡ true → IsKnown row
row-is row is =
    let suits = and_parts _ _ is in
    let words = and_parts _ _ suits.0 in
    let short = and_parts _ _ words.0 in
    record {
      name_short = leb-true (length row.name) 40 short.1;
      words_long = rw (same row.words row.name words.1) (length-map row.name spaced);
      suits = suits.1;
    }

-- what is known of rows that are well made
pub rows-are : (rows : List Row) → are_well_made rows ≡ true → (length rows ≤ 16) × (list_all is_well_made rows ≡ true)
rows-are rows is =
    let first = and_parts _ _ (and_parts _ _ is).0 in (leb-true (length rows) 16 first.0, first.1)

pub request_rows-are : (rows : List Row) → are_request_rows rows ≡ true
    → (are_well_made rows ≡ true) × (length rows ≤ 7) × (leave_nothing rows ≡ true)
request_rows-are rows is =
    let last = and_parts _ _ is in
    let first = and_parts _ _ last.0 in (first.0, leb-true (length rows) 7 first.1, last.1)

-- what is known of every row of the table
pub ruleset well_made = (
  the_table_is_well_made-requests,
  the_table_is_well_made-replies,
  the_table_is_well_made-names,
  the_table_is_well_made-needed,
)
