-- The words that give the fields of a request (implementation choice).
use Rattle.std.specs.Prelude.{ℕ, ◌+◌, ◌==◌, nat_lt, not, if◌then◌else◌, Bool, false}
use Rattle.std.specs.Prelude.{List, [], ◌∷◌, ◌++◌, drop, get_or, is_some, length, take, Result, Ok, Err, Option, None, Some}
use Rattle.std.specs.Prelude.{option_map}
use Rattle.std.specs.List.{list_any, position_or_len}
use Rattle.std.specs.Option.{option_map_or, option_or}
use Rattle.std.specs.Str.{bytes_eq}
use Rattle.hart_commands.specs.Commands.{command_name, request_rows}
use Rattle.hart_commands.specs.Fields.{Row}
use Rattle.hart_commands.specs.RequestData.{Reading, request_reading}
use Rattle.hart_request.specs.declared.fault.BadField.{BadField}
use Rattle.hart_request.specs.declared.fault.FieldFault.{FieldFault}
use Rattle.hart_request.specs.declared.fault.FieldFault.TheVariants.{GivenTwice, Missing, NotNamed, Refused, UnknownCommand}
use Rattle.hart_request.specs.declared.fault.FieldFault.TheVariants.{UnknownField}
use Rattle.hart_request.specs.Values.{value_of}

-- The place of the first `=` (the byte 61) in a word, or the length of the word if it has no `=`.
abbrev pub equals_place : List ℕ → ℕ
equals_place word = position_or_len (λ code. code == 61) word

-- The name and the value in a word with a `=`: the bytes before its first `=`, and the bytes after it. `None` for a word without a `=`.
abbrev pub named : List ℕ → Option (List ℕ × List ℕ)
named word =
    if nat_lt (equals_place word) (length word) then Some (take (equals_place word) word, drop (equals_place word + 1) word) else None

-- Whether a word gives a value to this name.
abbrev pub has_name : List ℕ → List ℕ → Bool
has_name name word = option_map_or (λ parts. bytes_eq parts.0 name) (named word) false

-- Whether a word gives a value to the field of a row.
abbrev pub is_for : Row → List ℕ → Bool
is_for row word = has_name row.name word

-- What is wrong with the name in a word: no field has this name, or an earlier word already gives this field a value.
abbrev pub fault_of_name : List Row → List (List ℕ) → List ℕ → Option FieldFault
fault_of_name rows earlier name =
    if not (list_any (λ row. bytes_eq name row.name) rows) then Some UnknownField
    else if list_any (has_name name) earlier then Some GivenTwice
    else None

-- What is wrong with the name in a word: the word has no `=`, or its name has a fault.
abbrev pub name_fault : List Row → List (List ℕ) → List ℕ → Option FieldFault
name_fault rows earlier word = option_map_or (λ parts. fault_of_name rows earlier parts.0) (named word) (Some NotNamed)

-- The fault of a word that gives a field. `place` counts these words from 0. The word at place 0 has the number 4.
abbrev pub bad_at : ℕ → FieldFault → BadField
bad_at place fault = record { number = 4 + place; fault = fault }

-- The fault of the first word in `words` that has a bad name. The words `earlier` come before `words`.
abbrev pub first_bad_name : List Row → (earlier words : List (List ℕ)) → Option BadField
first_bad_name rows earlier [] = None
first_bad_name rows earlier (word ∷ words) =
    option_or (option_map (bad_at (length earlier)) (name_fault rows earlier word)) (first_bad_name rows (earlier ++ word ∷ []) words)

-- The place of the first word that gives a value to the field of a row, or the number of words if no word does.
abbrev pub place_for : List (List ℕ) → Row → ℕ
place_for words row = position_or_len (is_for row) words

-- The value in a word: the bytes after its first `=`.
abbrev pub value_in : List ℕ → List ℕ
value_in word = option_map_or (λ parts. parts.1) (named word) []

-- The bytes that the word at a place gives for a field. A fault gets the number of this word.
abbrev pub given_at : ℕ → Result (List ℕ) FieldFault → Result (List ℕ) BadField
given_at place (Ok bytes) = Ok bytes
given_at place (Err fault) = Err (bad_at place fault)

-- The bytes for the field of a row, from the value in the field's word. If no word gives the field a value, the fault is `Missing`, at the
-- place after the last word. `field` is the place of the field in the command's requests.
abbrev pub field_value : (command field : ℕ) → List (List ℕ) → Row → Result (List ℕ) BadField
field_value command field words row =
    if nat_lt (place_for words row) (length words)
    then given_at (place_for words row) (value_of row.kind row.size (value_in (get_or words (place_for words row) [])))
    else Err (bad_at (length words) (Missing command field))

-- The bytes and then the later bytes, or the fault of the later bytes.
abbrev pub after_bytes : List ℕ → Result (List ℕ) BadField → Result (List ℕ) BadField
after_bytes bytes (Ok rest) = Ok (bytes ++ rest)
after_bytes bytes (Err bad) = Err bad

-- The bytes of a field and then the bytes of the later fields, or the first fault among these fields.
abbrev pub joined : Result (List ℕ) BadField → Result (List ℕ) BadField → Result (List ℕ) BadField
joined (Ok bytes) rest = after_bytes bytes rest
joined (Err bad) rest = Err bad

-- The data of a command's request: the bytes that the words give for its fields, in the order of the rows. The first of these rows has the
-- place `field`.
abbrev pub data_of_fields : (command field : ℕ) → List (List ℕ) → List Row → Result (List ℕ) BadField
data_of_fields command field words [] = Ok []
data_of_fields command field words (row ∷ rows) =
    joined (field_value command field words row) (data_of_fields command (field + 1) words rows)

-- The data, if they can be read as a request of the command. If the command refuses the data, the bad word is the third word, COMMAND.
abbrev pub taken : List ℕ → Reading → Result (List ℕ) BadField
taken bytes (Ok request) = Ok bytes
taken bytes (Err code) = Err (record { number = 3; fault = Refused code })

-- The data, if they were given without a fault and the command does not refuse them.
abbrev pub taken_by : ℕ → Result (List ℕ) BadField → Result (List ℕ) BadField
taken_by command (Ok bytes) = taken bytes (request_reading command bytes)
taken_by command (Err bad) = Err bad

-- The fault of a bad name, if there is one, and otherwise the data or the fault of a value.
abbrev pub unless_bad : Option BadField → Result (List ℕ) BadField → Result (List ℕ) BadField
unless_bad (Some bad) given = Err bad
unless_bad None given = given

-- The data that words give for a request of a command, or a fault. The fault is the first of these that holds: the command is unknown; a
-- name is bad; a field has no good value; the command refuses the data.
abbrev pub payload_of : ℕ → List (List ℕ) → Result (List ℕ) BadField
payload_of command words =
    let rows = request_rows command in
    if is_some (command_name command)
    then unless_bad (first_bad_name rows [] words) (taken_by command (data_of_fields command 0 words rows))
    else Err (record { number = 3; fault = UnknownCommand })
