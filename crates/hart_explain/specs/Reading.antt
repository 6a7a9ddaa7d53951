-- What the data of a message mean: the fields that are found, the bytes that are ignored, and what is wrong (implementation choice).
use Rattle.std.specs.Prelude.{◌==◌, nat_lt, is_some, if◌then◌else◌, [], ◌∷◌, ℕ, List, Option, None, Some, Ok, Err, drop, length, take}
use Rattle.hart_commands.specs.Commands.{command_name, reply_rows, request_rows}
use Rattle.hart_commands.specs.Fields.{Field, Row, bytes_of, fields_of}
use Rattle.hart_commands.specs.RequestData.{needed_data, Reading as RequestOrCode, request_data, request_reading}
use Rattle.hart_commands.specs.Parts.{content_bytes}
use Rattle.hart_commands.specs.ReplyData.{reply_reading}
use Rattle.hart_commands.specs.declared.reply.Reply.{Reply}
use Rattle.hart_explain.specs.declared.field.Field.{Field as FieldInCode}
use Rattle.hart_explain.specs.declared.reading.Problem.{Problem}
use Rattle.hart_explain.specs.declared.reading.Problem.TheVariants.{NoReply, NotRead, Refused, TooFew, UnknownCommand}
use Rattle.hart_explain.specs.declared.reading.Reading.{Reading as ReadingInCode}

-- A reading of data: the fields that are found in them, the bytes that are ignored, and what is wrong, if anything is.
pub record Reading : Type 0 where
  pub fields : List Field
  pub ignored : List ℕ
  pub problem : Option Problem

-- The reading that finds no field and ignores no byte.
abbrev pub nothing_found : Option Problem → Reading
nothing_found problem = record { fields = []; ignored = []; problem = problem }

-- The reading that finds the fields in the first `count` bytes, and ignores the bytes after them.
abbrev pub taken : List Row → ℕ → List ℕ → Reading
taken rows count bytes = record { fields = fields_of rows (take count bytes); ignored = drop count bytes; problem = None }

-- The reading of data that are refused with a code. It finds the fields in the data, and ignores the bytes after them.
abbrev pub refused : List Row → ℕ → List ℕ → Reading
refused rows code bytes =
    let fields = fields_of rows bytes in
    record { fields = fields; ignored = drop (length (bytes_of fields)) bytes; problem = Some (Refused code) }

-- The reading of data that a device refuses. Code 64 means an unknown command, and code 5 too few data. With any other code, the fields in
-- the data are found.
abbrev pub refused_request : (command code : ℕ) → List ℕ → Reading
refused_request command code bytes =
    if code == 64 then nothing_found (Some UnknownCommand)
    else if code == 5 then nothing_found (Some (TooFew (needed_data command)))
    else refused (request_rows command) code bytes

-- The reading of request data. If the data are a request, its fields are found, and the bytes after that request are ignored. Otherwise the
-- data are refused with a code.
abbrev pub asked : ℕ → List ℕ → RequestOrCode → Reading
asked command bytes (Ok request) = taken (request_rows command) (length (request_data request)) bytes
asked command bytes (Err code) = refused_request command code bytes

-- What the data of a request mean.
unfoldable pub reading_of_request : ℕ → List ℕ → Reading
reading_of_request command bytes = asked command bytes (request_reading command bytes)

-- The reading of data after a response code other than 0. A reply with a warning may have such data; they are not read.
abbrev pub not_read : ℕ → List ℕ → Reading
not_read code [] = nothing_found None
not_read code (byte ∷ bytes) = nothing_found (Some (NotRead code))

-- The reading of the data of a reply. A payload that is not read as a reply is a problem. With code 0 the fields of the reply's content are
-- found, and the bytes after the content are ignored. With another code the data are not read.
abbrev pub replied : ℕ → List ℕ → Option Reply → Reading
replied command bytes None = nothing_found (Some (if is_some (command_name command) then NoReply else UnknownCommand))
replied command bytes (Some reply) =
    if reply.code == 0 then taken (reply_rows command) (length (content_bytes reply.content)) bytes
    else not_read reply.code bytes

-- What the payload of a reply means: two status bytes, and then the data. After communication faults, the data mean nothing and are
-- ignored.
unfoldable pub reading_of_reply : ℕ → List ℕ → Reading
reading_of_reply command (first ∷ second ∷ bytes) =
    if nat_lt 127 first then record { fields = []; ignored = bytes; problem = None }
    else replied command bytes (reply_reading command (first ∷ second ∷ bytes))
reading_of_reply command _ = nothing_found None

-- A field in the code, as a `Field` of the definitions.
abbrev pub seen_field : FieldInCode → Field
seen_field field = record { name = field.name.now; words = field.words.now; kind = field.kind; bytes = field.bytes.now }

-- A reading in the code, as a `Reading` of these definitions.
abbrev pub seen_reading : ReadingInCode → Reading
seen_reading reading = record { fields = reading.fields; ignored = reading.ignored.now; problem = reading.problem }
