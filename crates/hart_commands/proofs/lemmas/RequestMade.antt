-- What is read from data: a well-made request of the command, or a code that refuses the data. The data begin with the data of the
-- written request, or are the data of Command 6 without the mode.
use Rattle.std.proofs.Common.{◌≡◌, ◌↔◌, ℕ, Bool, true, false, ◌<◌, ◌≤◌, ◌⊎◌, All, List, [], ◌++◌, get_or, take, drop, length, Ok, Err}
use Rattle.std.proofs.Common.{refl, arith}
use Rattle.std.proofs.Common.{append_assoc, eqb, length-drop, length-take-le}
use Rattle.std.proofs.Math.Seq.{take-add}
use Rattle.std.proofs.lemmas.Bool.Decides.{nat_tests}
use Rattle.std.proofs.lemmas.Grind.{common_steps}
use Rattle.std.proofs.lemmas.List.{drop-drop}
use Rattle.std.specs.List.{AllByRecursion}
use Rattle.std.specs.Option.{option_map_or}
use Rattle.std.specs.Prelude.{is_some}
use Rattle.hart_values.proofs.lemmas.Laws.{dates_are_decided-date}
use Rattle.hart_commands.specs.Commands.{Always, Asked, CommandRow, asked, commands, is_known}
use Rattle.hart_commands.specs.RequestData.{needed_data, IsRequest, command_of, read_by, request_data, request_reading}
use Rattle.hart_commands.specs.RequestReading.{Reading, needing, polling_reading, codes_reading, tag_reading, reset_reading}
use Rattle.hart_commands.specs.Groups.{tag_in, descriptor_in, date_in}
use Rattle.hart_commands.specs.declared.request.Request.{Request}
use Rattle.hart_commands.proofs.lemmas.Rows.{by_row}

-- data begin with the data of the written request, or are only the polling address of a Command 6, which is written with a mode too
abbrev pub AreBegun : ℕ → List ℕ → List ℕ → Type 0
AreBegun command bytes written =
    (take (length written) bytes ≡ written) ⊎ ((command ≡ 6) × (length bytes ≡ 1) × (length written ≡ 2) × (bytes ≡ take 1 written))

-- what is true of a reading of `bytes` for a command that needs `size` bytes; `known` says whether the command is known
abbrev pub IsGiven : Bool → ℕ → ℕ → List ℕ → Reading → Type 0
IsGiven known size command bytes (Ok request) =
    (command_of request ≡ command) × IsRequest request × (known ≡ true)
    × ((size ≤ length bytes) ⊎ ((command ≡ 38) × (length bytes ≡ 0)))
    × (get_or bytes 1 0 < 256 → AreBegun command bytes (request_data request))
IsGiven known size command bytes (Err code) =
    ((code ≡ 64) ↔ (known ≡ false)) × ((code ≡ 5) ↔ ((length bytes < size) × (command ≡ 38 → 0 < length bytes)))
    × (0 < code) × (code < 128)

-- `IsGiven` is true of what `asked` reads from any data of a known command
abbrev pub Gives : ℕ → ℕ → (List ℕ → Reading) → Type 0
Gives size command asked = (bytes : List ℕ) → IsGiven true size command bytes (asked bytes)

needed : (size command : ℕ) (request : List ℕ → Request) → eqb command 38 ≡ false
    → ((xs : List ℕ) → length xs ≡ size → (command_of (request xs) ≡ command) × IsRequest (request xs) × (request_data (request xs) ≡ xs))
    → Gives size command (needing size request)
needed size command request differs each bytes = grind (arith, common_steps, nat_tests)

polling : Gives 1 6 polling_reading
polling bytes = grind (arith, common_steps, nat_tests)

codes : Gives 1 9 codes_reading
codes bytes = grind (arith, common_steps)

reset : Gives 2 38 reset_reading
reset bytes = grind (arith, common_steps)

tag : Gives 21 18 tag_reading
tag bytes =
    let twelve = length-take-le 12 (drop 6 bytes) in grind (arith, length-drop, nat_tests, dates_are_decided-date, whole)
  where
    whole : tag_in bytes ++ descriptor_in bytes ++ date_in bytes ≡ take 21 bytes
    whole = rw (take-add 6 15 bytes, take-add 12 3 (drop 6 bytes), drop-drop 12 6 bytes, append_assoc) refl

-- what a row has to satisfy, so that it reads requests of its own command number
abbrev pub Own : ℕ → ℕ → Asked → Type 0
Own command size (Always request) = (size ≡ 0) × (command_of request ≡ command) × IsRequest request × (request_data request ≡ [])
Own command size request = Gives size command (asked size request)

abbrev pub OwnRow : CommandRow → Type 0
OwnRow row = Own row.command.number row.command.needed row.asked

rows : AllByRecursion OwnRow commands
rows = search (needed, polling, codes, tag, reset)

gives : (command size : ℕ) (request : Asked) → Own command size request → Gives size command (asked size request)
gives command size request own bytes = grind (arith, common_steps, own)

pub given : (command : ℕ) (bytes : List ℕ) → IsGiven (is_known command) (needed_data command) command bytes (request_reading command bytes)
given command bytes = by_row OwnRow
    (λ row. IsGiven (is_some row) (option_map_or (λ row. row.command.needed) row 0) command bytes (read_by row bytes))
    commands command rows (grind arith) (λ row same own. rw (← same) (gives row.command.number row.command.needed row.asked own bytes))

pub requests_have_their_command : (command : ℕ) (bytes : List ℕ) (request : Request) → request_reading command bytes ≡ Ok request
    → (command_of request ≡ command) × IsRequest request
requests_have_their_command command bytes request e = let is = rw e at (given command bytes) in (is.0, is.1)

pub begun : (command : ℕ) (bytes : List ℕ) (request : Request) → All (λ byte. byte < 256) bytes → request_reading command bytes ≡ Ok request
    → AreBegun command bytes (request_data request)
begun command bytes request fit e = (rw e at (given command bytes)).4 (grind (arith, common_steps, fit 1 0))
