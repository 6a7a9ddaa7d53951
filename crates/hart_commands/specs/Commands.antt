-- The table of the commands, and what it says of each command (HCF_SPEC-099, HCF_SPEC-127).
use Prim.Native.String.{String}
use Rattle.std.specs.Prelude.{ℕ, ◌==◌, ◌||◌, Bool, List, [], ◌∷◌, find, map, Ok, Option, is_some}
use Rattle.std.specs.Option.{option_map, option_map_or}
use Rattle.hart_commands.specs.declared.commands.table.Command.{Command as CommandInCode}
use Rattle.hart_commands.specs.declared.content.ReplyContent.{ReplyContent}
use Rattle.hart_commands.specs.declared.content.ReplyContent.TheVariants as contents
use Rattle.hart_commands.specs.declared.fields.FieldKind.TheVariants as kinds
use Rattle.hart_commands.specs.declared.fields.FieldSize.TheVariants.{AllBut, Exactly}
use Rattle.hart_commands.specs.declared.register.Register.{Register}
use Rattle.hart_commands.specs.declared.register.Register.TheVariants as registers
use Rattle.hart_commands.specs.declared.request.Request.{Request}
use Rattle.hart_commands.specs.declared.request.Request.TheVariants as requests
use Rattle.hart_commands.specs.Fields.{Row, field, seen, text, total}
use Rattle.hart_commands.specs.Fields as fields
use Rattle.hart_commands.specs.Groups.{output_of, sensor_of}
use Rattle.hart_commands.specs.ReplyReading.{saying, current_of, polling_of, tag_of, identity_reading, dynamic_reading, variables_reading}
use Rattle.hart_commands.specs.ReplyReading.{more_reading}
use Rattle.hart_commands.specs.RequestReading.{Reading, needing, polling_reading, codes_reading, tag_reading, reset_reading}
use Rattle.hart_commands.specs.Values.{unit_value_of}

-- How the data of a request are read. `Always`: the request is always the same. `Needing`: the bytes that the command needs determine the
-- request. `AskedBy`: the command has a function that reads the data.
pub data Asked : Type 0 where
  Always : Request → Asked
  Needing : (List ℕ → Request) → Asked
  AskedBy : (List ℕ → Reading) → Asked

-- The request in `bytes`, or the code that refuses these bytes. The command needs `needed` bytes.
abbrev pub asked : ℕ → Asked → List ℕ → Reading
asked needed (Always request) bytes = Ok request
asked needed (Needing request) bytes = needing needed request bytes
asked needed (AskedBy reading) bytes = reading bytes

-- How the data of a reply are read. `Saying`: the bytes of the reply's fields determine the content. `SaidBy`: the command has a function
-- that reads the data.
pub data Replied : Type 0 where
  Saying : (List ℕ → ReplyContent) → Replied
  SaidBy : (List ℕ → Option ReplyContent) → Replied

-- The content of a reply's data, or `None` if the data have no content. `fields` are the fields of the data.
unfoldable pub replied : List Row → Replied → List ℕ → Option ReplyContent
replied fields (Saying content) bytes = saying (total fields) content bytes
replied fields (SaidBy reading) bytes = reading bytes

-- A command: its number, its name, and the fields of its request data. `needed` is the number of request data bytes that it needs, `reply`
-- the fields of its reply data with code 0, and `writes` the registers that it writes. A write sets the first of these registers to the
-- first field of its request data, the second register to the second field, and so on.
pub record Command : Type 0 where
  pub number : ℕ
  pub name : List ℕ
  pub request : List Row
  pub needed : ℕ
  pub reply : List Row
  pub writes : List Register

-- A row of the table: a command, how its request data are read, and how its reply data with code 0 are read.
pub record CommandRow : Type 0 where
  pub command : Command
  pub asked : Asked
  pub replied : Replied

-- The row of a command that writes no register.
abbrev pub asks : ℕ → String → List Row → ℕ → Asked → List Row → Replied → CommandRow
asks number name request needed asked reply replied = record {
  command = record { number = number; name = text name; request = request; needed = needed; reply = reply; writes = [] };
  asked = asked;
  replied = replied;
}

-- The row of a command without request data. Its request is always the same.
abbrev pub reads : ℕ → String → Request → List Row → Replied → CommandRow
reads number name request reply replied = asks number name [] 0 (Always request) reply replied

-- The row of a command whose data are written to registers and returned in the reply.
abbrev pub writes : ℕ → String → List Row → ℕ → Asked → Replied → List Register → CommandRow
writes number name fields needed asked replied registers = record {
  command = record { number = number; name = text name; request = fields; needed = needed; reply = fields; writes = registers };
  asked = asked;
  replied = replied;
}

-- The known commands, one row each. Command 6 needs only the first of its two bytes. A list of fields has a name in `Fields` if several
-- rows use it or if it has more than one field.
abbrev pub commands : List CommandRow
commands =
    reads 0 "read unique identifier" requests.Identify fields.identity (SaidBy identity_reading)
    ∷ reads 1 "read primary variable" requests.ReadPrimary fields.primary (Saying (λ xs. contents.Primary (unit_value_of xs)))
    ∷ reads 2 "read loop current and percent of range" requests.ReadCurrent fields.current (Saying current_of)
    ∷ reads 3 "read dynamic variables and loop current" requests.ReadDynamic fields.dynamic (SaidBy dynamic_reading)
    ∷ writes 6 "write polling address" fields.polling 1 (AskedBy polling_reading) (Saying polling_of)
    (registers.Polling ∷ registers.Mode ∷ [])
    ∷ reads 7 "read loop configuration" requests.ReadPolling fields.polling (Saying polling_of)
    ∷ reads 8 "read dynamic variable classifications" requests.ReadClasses fields.classes (Saying contents.Classes)
    ∷ asks 9 "read device variables with status" (field "device_variable_codes" (AllBut 0) kinds.Bytes ∷ []) 1 (AskedBy codes_reading)
    fields.variables (SaidBy variables_reading)
    ∷ asks 11 "read unique identifier associated with tag" (field "tag" (Exactly 6) kinds.PackedText ∷ []) 6
    (Needing requests.IdentifyByTag) fields.identity (SaidBy identity_reading)
    ∷ reads 12 "read message" requests.ReadMessage fields.message (Saying contents.Message)
    ∷ reads 13 "read tag, descriptor, date" requests.ReadTag fields.tag_and_more (Saying tag_of)
    ∷ reads 14 "read primary variable transducer information" requests.ReadSensor fields.sensor
    (Saying (λ xs. contents.Sensor (sensor_of xs)))
    ∷ reads 15 "read device information" requests.ReadOutput fields.output (Saying (λ xs. contents.Output (output_of xs)))
    ∷ reads 16 "read final assembly number" requests.ReadAssembly fields.assembly (Saying contents.Assembly)
    ∷ writes 17 "write message" fields.message 24 (Needing requests.WriteMessage) (Saying contents.Message) (registers.Message ∷ [])
    ∷ writes 18 "write tag, descriptor, date" fields.tag_and_more 21 (AskedBy tag_reading) (Saying tag_of)
    (registers.Tag ∷ registers.Descriptor ∷ registers.Date ∷ [])
    ∷ writes 19 "write final assembly number" fields.assembly 3 (Needing requests.WriteAssembly) (Saying contents.Assembly)
    (registers.Assembly ∷ [])
    ∷ reads 20 "read long tag" requests.ReadLongTag fields.long_tag (Saying contents.LongTag)
    ∷ asks 21 "read unique identifier associated with long tag" fields.long_tag 32 (Needing requests.IdentifyByLongTag)
    fields.identity (SaidBy identity_reading)
    ∷ writes 22 "write long tag" fields.long_tag 32 (Needing requests.WriteLongTag) (Saying contents.LongTag) (registers.LongTag ∷ [])
    ∷ asks 38 "reset configuration changed flag" fields.counter 2 (AskedBy reset_reading) fields.counter (Saying contents.Counter)
    ∷ reads 48 "read additional device status" requests.ReadMore (field "additional_status" (AllBut 0) kinds.Bytes ∷ [])
    (SaidBy more_reading)
    ∷ []

-- The row of the command with this number, if the table has one.
abbrev pub command_row : ℕ → Option CommandRow
command_row number = find (λ row. row.command.number == number) commands

-- A command is known if the table has a row for it.
abbrev pub is_known : ℕ → Bool
is_known number = is_some (command_row number)

-- Implementation choice: only Commands 11 and 21 may be broadcast, because they find a device by its tag or its long tag.
abbrev pub may_be_broadcast : ℕ → Bool
may_be_broadcast number = (number == 11) || (number == 21)

-- The command in the table with this number, if there is one.
unfoldable pub known : ℕ → Option Command
known number = option_map (λ row. row.command) (command_row number)

-- The name of the command with this number, if the table has that command.
abbrev pub command_name : ℕ → Option (List ℕ)
command_name number = option_map (λ command. command.name) (known number)

-- The fields of a command's request data, or no fields if the command has no row.
abbrev pub request_rows : ℕ → List Row
request_rows number = option_map_or (λ command. command.request) (known number) []

-- The fields of a command's reply data with code 0, or no fields if the command has no row.
abbrev pub reply_rows : ℕ → List Row
reply_rows number = option_map_or (λ command. command.reply) (known number) []

-- The registers that a command writes, or no registers if the command has no row.
unfoldable pub written_by : ℕ → List Register
written_by number = option_map_or (λ row. row.command.writes) (command_row number) []

-- A row of the table in Rust, as a `Command` of the definitions.
abbrev pub seen_command : CommandInCode → Command
seen_command command = record {
  number = command.number;
  name = command.name.now;
  request = map seen command.request.now;
  needed = command.needed;
  reply = map seen command.reply.now;
  writes = command.writes.now;
}

-- The number of a request's command.
abbrev pub command_of : Request → ℕ
command_of requests.Identify = 0
command_of requests.ReadPrimary = 1
command_of requests.ReadCurrent = 2
command_of requests.ReadDynamic = 3
command_of (requests.SetPolling address mode) = 6
command_of requests.ReadPolling = 7
command_of requests.ReadClasses = 8
command_of (requests.ReadVariables codes) = 9
command_of (requests.IdentifyByTag tag) = 11
command_of requests.ReadMessage = 12
command_of requests.ReadTag = 13
command_of requests.ReadSensor = 14
command_of requests.ReadOutput = 15
command_of requests.ReadAssembly = 16
command_of (requests.WriteMessage message) = 17
command_of (requests.WriteTag tag descriptor date) = 18
command_of (requests.WriteAssembly assembly) = 19
command_of requests.ReadLongTag = 20
command_of (requests.IdentifyByLongTag long_tag) = 21
command_of (requests.WriteLongTag long_tag) = 22
command_of (requests.ResetChanged counter) = 38
command_of requests.ReadMore = 48
