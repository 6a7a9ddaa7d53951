-- How many data bytes a command needs, what those of a request ask for, and which requests are well made (HCF_SPEC-127).
use Rattle.std.specs.Prelude.{ℕ, ◌≡◌, ◌<◌, ◌≤◌, ◌⊎◌, List, [], length, Err, Option, Some, None}
use Rattle.std.specs.Option.{option_map_or}
use Rattle.hart_values.specs.hart_date.Calendar.{IsDateBytes}
use Rattle.hart_commands.specs.declared.request.Request.{Request}
use Rattle.hart_commands.specs.declared.request.Request.TheVariants.{SetPolling, ReadVariables, IdentifyByTag, WriteMessage, WriteTag}
use Rattle.hart_commands.specs.declared.request.Request.TheVariants.{WriteAssembly, IdentifyByLongTag, WriteLongTag, ResetChanged}
use Rattle.hart_commands.specs.Commands.{CommandRow, asked, command_row}
pub use Rattle.hart_commands.specs.Commands.{is_known, command_of}
pub use Rattle.hart_commands.specs.Parts.{mode_byte, request_data}
pub use Rattle.hart_commands.specs.RequestReading.{Reading}

-- The number of data bytes that a command needs: the number in its row, or 0 if it has no row.
abbrev pub needed_data : ℕ → ℕ
needed_data number = option_map_or (λ row. row.command.needed) (command_row number) 0

-- Data are too few if they have fewer bytes than their command needs. There is one exception: the data of Command 38 may be empty, and then
-- name no counter.
abbrev pub AreTooFew : ℕ → List ℕ → Type 0
AreTooFew command bytes = (length bytes < needed_data command) × (command ≡ 38 → 0 < length bytes)

-- The request in some data, read as this row of the table says. Without a row, the data are refused with code 64.
abbrev pub read_by : Option CommandRow → List ℕ → Reading
read_by None bytes = Err 64
read_by (Some row) bytes = asked row.command.needed row.asked bytes

-- The request in some data, read as the row of the command says.
abbrev pub request_reading : ℕ → List ℕ → Reading
request_reading command = read_by (command_row command)

-- A request is well made if each of its parts has the size and the values that its command requires.
abbrev pub IsRequest : Request → Type 0
IsRequest (SetPolling address mode) = address < 64
IsRequest (ReadVariables codes) = (0 < length codes) × (length codes ≤ 8)
IsRequest (IdentifyByTag tag) = length tag ≡ 6
IsRequest (WriteMessage message) = length message ≡ 24
IsRequest (WriteTag tag descriptor date) = (length tag ≡ 6) × (length descriptor ≡ 12) × IsDateBytes date
IsRequest (WriteAssembly assembly) = length assembly ≡ 3
IsRequest (IdentifyByLongTag long_tag) = length long_tag ≡ 32
IsRequest (WriteLongTag long_tag) = length long_tag ≡ 32
IsRequest _ = Unit {0}

-- Bytes that may follow the data of a request and are then ignored. Any bytes may follow, with two exceptions. If Command 9 has fewer than
-- eight codes, no byte may follow, because that byte would be read as another code. If Command 38 has no counter, no byte may follow.
abbrev pub MayFollow : Request → List ℕ → Type 0
MayFollow (ReadVariables codes) rest = (length codes ≡ 8) ⊎ (rest ≡ [])
MayFollow (ResetChanged None) rest = rest ≡ []
MayFollow _ rest = Unit {0}
