-- What a caller in C can rely on when it reads the data of a message, or asks for the names of its fields (implementation choice).
use Rattle.std.specs.Prelude.{◌≡◌, ◌<◌, ◌≤◌, ◌⊎◌, ◌++◌, ◌+◌, ℕ, Bool, true, false, List, [], ◌∷◌, drop, length, slice_get, take}
use Rattle.std.specs.Prelude.{Option, None, Some, option_map, MatchOption, MatchResult}
use Rattle.hart_commands.specs.{ReplyData.reply_reading, RequestData.request_data, RequestData.request_reading}
use Rattle.hart_commands.specs.declared.fields.FieldKind.TheVariants.{Bytes, Date, Float, LatinText, Number, PackedText, UnitCode}
use Rattle.hart_commands.specs.declared.fields.FieldKind.TheVariants.{Variables}
use Rattle.hart_commands.specs.{Commands.reply_rows, Commands.request_rows, declared.fields.FieldKind.FieldKind}
use Rattle.hart_commands.specs.{FieldWidths.IsWidthOf, Fields.Field, Fields.Row, Fields.bytes_of, Fields.fields_of, Parts.content_bytes}
use Rattle.hart_c.specs.Faults.{number_of}
use Rattle.hart_c.specs.declared.fault.Fault.TheVariants.{NoRoom}
use Rattle.hart_c.specs.declared.{data.HartField.HartField, data.HartReading.HartReading, fault.HartOutcome.HartOutcome}

-- If the name fits, it is written to the front of the output, and the call returns its length. If there is no name, the fault is 15. If the
-- name does not fit, the fault is 12. With a fault, the output is unchanged.
abbrev pub NameOutcome : Option (List ℕ) → List ℕ → List ℕ → HartOutcome → Type 0
NameOutcome None before after outcome = (outcome ≡ record { len = 0; fault = 15 }) × (after ≡ before)
NameOutcome (Some name) before after outcome =
    ((length name ≤ length before) × (outcome ≡ record { len = length name; fault = 0 }) × (after ≡ name ++ drop (length name) before))
    ⊎ ((length before < length name) × (outcome ≡ record { len = 0; fault = number_of NoRoom }) × (after ≡ before))

-- The rows of a command's fields. For `true`, they are the rows of its reply data with code 0. For `false`, they are the rows of its
-- request data.
abbrev pub rows_for : Bool → ℕ → List Row
rows_for true command = reply_rows command
rows_for false command = request_rows command

-- The name in words of the field of a command at an index, counted from 0, if there is such a field.
abbrev pub field_name : Bool → ℕ → ℕ → Option (List ℕ)
field_name is_reply command index = option_map (λ row. row.words) (slice_get (rows_for is_reply command) index)

-- The number that each kind of field has in C.
abbrev pub kind_number : FieldKind → ℕ
kind_number Bytes = 0
kind_number Number = 1
kind_number PackedText = 2
kind_number Date = 3
kind_number Float = 4
kind_number Variables = 5
kind_number LatinText = 6
kind_number UnitCode = 7

-- Fields as `HartField` structs. The first field starts at `start`, and each other field starts where the field before it stops.
abbrev pub placed : ℕ → List Field → List HartField
placed start [] = []
placed start (field ∷ fields) =
    record { start = start; len = length field.bytes; kind = kind_number field.kind } ∷ placed (start + length field.bytes) fields

-- The list `before`, whose first elements are replaced by `written`. Elements of `written` that do not fit are left out.
abbrev pub written_over : List HartField → List HartField → List HartField
written_over written before = take (length before) written ++ drop (length written) before

-- The bytes have the fields of these rows, and these fields are written over the first elements of `before`. The first field starts at
-- `start`. The result has the number of all fields, the code, the device status and no fault. `taken` counts these bytes and the bytes
-- before `start`.
pub record IsShown (start : ℕ) (rows : List Row) (bytes : List ℕ) (code status : ℕ) (before after : List HartField) (reading : HartReading)
    : Type 0 where
  pub told : reading
      ≡ record { count = length (fields_of rows bytes); taken = start + length bytes; code = code; status = status; fault = 0 }
  pub shown : after ≡ written_over (placed start (fields_of rows bytes)) before

-- `hart_read_request` reads the data as a request of this command. It writes the fields of the request's command, in the data bytes that
-- the request takes. If the data are refused, no field is written, and the result has only the code.
abbrev pub RequestOutcome : ℕ → List ℕ → List HartField → List HartField → HartReading → Type 0
RequestOutcome command bytes before after reading =
    MatchResult (request_reading command bytes)
    (λ request. IsShown 0 (request_rows command) (take (length (request_data request)) bytes) 0 0 before after reading)
    (λ code. IsShown 0 [] [] code 0 before after reading)

-- `hart_read_reply` reads the payload as a reply to this command. It writes the fields of the reply's command, in the bytes of the reply's
-- content, from place 2 on. The result has the code and the device status of the reply. A reply with a code other than 0 has no content
-- bytes, and so no fields. If the payload is no reply, the fault is 14, all other members of the result are 0, and no field is written.
abbrev pub ReplyOutcome : ℕ → List ℕ → List HartField → List HartField → HartReading → Type 0
ReplyOutcome command payload before after reading =
    MatchOption (reply_reading command payload)
    ((reading ≡ record { count = 0; taken = 0; code = 0; status = 0; fault = 14 }) × (after ≡ before))
    (λ reply. IsShown 2 (reply_rows command) (content_bytes reply.content) reply.code reply.status.0 before after reading)

-- `shown` is the field with this index. The field has the name and the kind of its row, and a width that this kind allows. The field's
-- place is right after the earlier fields, and its bytes stand at this place.
pub record StandsAt (is_reply : Bool) (command first : ℕ) (fields : List Field) (bytes : List ℕ) (index : ℕ) (shown : HartField)
    : Type 0 where
  pub row : Row
  pub field : Field
  pub is_row : slice_get (rows_for is_reply command) index ≡ Some row
  pub is_field : slice_get fields index ≡ Some field
  pub name : field_name is_reply command index ≡ Some field.words
  pub kind : shown.kind ≡ kind_number row.kind
  pub start : shown.start ≡ first + length (bytes_of (take index fields))
  pub width : IsWidthOf row.kind shown.len
  pub within : shown.start + shown.len ≤ length bytes
  pub bytes_there : take shown.len (drop shown.start bytes) ≡ field.bytes
