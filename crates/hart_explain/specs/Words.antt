-- The words of a reading (implementation choice).
use Rattle.std.specs.Prelude.{◌++◌, [], ◌∷◌, ℕ, List, Option, None, Some, codes, decimal, length}
use Rattle.std.specs.Prelude.{slice_index, slice_range}
use Rattle.std.specs.List.{flat_map, join_by}
use Rattle.std.specs.Option.{option_map_or}
use Rattle.hex.specs.Hex.{encode_upper}
use Rattle.hart_commands.specs.Fields.{Field}
use Rattle.hart_commands.specs.Units.{unit_name}
use Rattle.hart_explain.specs.declared.reading.Problem.{Problem}
use Rattle.hart_explain.specs.declared.reading.Problem.TheVariants.{NoReply, NotRead, Refused, TooFew, UnknownCommand}
use Rattle.hart_commands.specs.Codes.{code_name}
use Rattle.hart_explain.specs.Reading.{Reading}
use Rattle.hart_explain.specs.Values.{Value, Raw, Number, Unit, Text, Day, NotSet, NoDate, Variables, held_value}

-- Bytes in hex: `0x` and two upper-case digits for each byte.
unfoldable pub hex_value : List ℕ → List ℕ
hex_value bytes = codes "0x" ++ encode_upper bytes

-- A space and a name in parentheses. Without a name, nothing is written.
abbrev pub in_parentheses : Option (List ℕ) → List ℕ
in_parentheses None = []
in_parentheses (Some name) = codes " (" ++ name ++ codes ")"

-- The words of a unit: its code and, if it has one, its name.
abbrev pub unit_words : ℕ → List ℕ
unit_words code = decimal code ++ in_parentheses (unit_name code)

-- The words of the eight bytes of a device variable: code and classification in decimal, the unit, and value and status in hex.
unfoldable pub variable_words : List ℕ → List ℕ
variable_words bytes =
    codes "code " ++ decimal (slice_index bytes 0)
    ++ codes ", classification " ++ decimal (slice_index bytes 1)
    ++ codes ", unit " ++ unit_words (slice_index bytes 2)
    ++ codes ", value " ++ hex_value (slice_range bytes 3 7)
    ++ codes ", status " ++ hex_value (slice_index bytes 7 ∷ [])

-- The words of a value.
abbrev pub value_words : Value → List ℕ
value_words (Raw bytes) = hex_value bytes
value_words (Number number) = decimal number
value_words (Unit code) = unit_words code
value_words (Text text) = codes "\"" ++ text ++ codes "\""
value_words (Day text) = text
value_words NotSet = codes "not set"
value_words (NoDate bytes) = hex_value bytes ++ codes ", no date"
value_words (Variables variables) = join_by variable_words (codes "; ") variables

-- A line of a paragraph: four spaces, a name, a colon, a space, a value and a line feed.
abbrev pub said_line : List ℕ → List ℕ → List ℕ
said_line name value = codes "    " ++ name ++ codes ": " ++ value ++ 10 ∷ []

-- The line of some bytes, with their name. If there are no bytes, there is no line.
abbrev pub bytes_line : List ℕ → List ℕ → List ℕ
bytes_line name [] = []
bytes_line name (byte ∷ bytes) = said_line name (hex_value (byte ∷ bytes))

-- The line of a field: its name in words, and the words of its value.
unfoldable pub field_line : Field → List ℕ
field_line field = said_line field.words (value_words (held_value field.kind field.bytes))

-- Bytes in hex, or `none` if there are no bytes.
abbrev pub bytes_or_none : List ℕ → List ℕ
bytes_or_none [] = codes "none"
bytes_or_none (byte ∷ bytes) = hex_value (byte ∷ bytes)

-- A comma, a space and a name. Without a name, nothing is written.
abbrev pub name_words : Option (List ℕ) → List ℕ
name_words None = []
name_words (Some name) = codes ", " ++ name

-- The lines of a problem with the data of a command.
abbrev pub problem_lines : ℕ → List ℕ → Problem → List ℕ
problem_lines command bytes UnknownCommand = bytes_line (codes "data") bytes
problem_lines command bytes (TooFew needed) =
    bytes_line (codes "data") bytes ++ said_line (codes "too few data") (decimal (length bytes) ++ codes " of " ++ decimal needed)
problem_lines command bytes (Refused code) = said_line (codes "refused") (decimal code ++ name_words (code_name command code))
problem_lines command bytes NoReply =
    said_line (codes "data that are no reply to Command " ++ decimal command ++ codes " of Revision 7") (bytes_or_none bytes)
problem_lines command bytes (NotRead code) = bytes_line (codes "not read (code " ++ decimal code ++ codes ")") bytes

-- The lines of a reading of the data of a command: one for each field, then what is wrong, if anything is, and then what is ignored.
unfoldable pub reading_lines : ℕ → List ℕ → Reading → List ℕ
reading_lines command bytes reading =
    flat_map field_line reading.fields ++ option_map_or (problem_lines command bytes) reading.problem []
    ++ bytes_line (codes "ignored") reading.ignored
