-- The value of a field, by the kind of the field (implementation choice).
use Rattle.std.specs.Prelude.{◌+◌, ◌*◌, ◌/◌, ◌%◌, ◌==◌, ◌&&◌, ◌||◌, nat_le, nat_lt, if◌then◌else◌, ◌++◌, [], ◌∷◌, ℕ, Bool, List}
use Rattle.std.specs.Prelude.{codes, decimal, encode_utf8_all, length}
use Rattle.std.specs.List.{fold, list_all}
use Rattle.std.specs.Simd.{first_chunks}
use Rattle.hart_values.specs.hart_date.Calendar.{is_date}
use Rattle.hart_commands.specs.declared.fields.FieldKind.{FieldKind}
use Rattle.hart_commands.specs.declared.fields.FieldKind.TheVariants as kinds
use Rattle.hart_explain.specs.declared.value.Value.{Value as ValueInCode}
use Rattle.hart_explain.specs.declared.value.Value.TheVariants as given

-- What a field holds: bytes; a number; the code of a unit; a text in UTF-8; a day of the calendar, as its text; a date that is not set;
-- bytes that are no date; or device variables of eight bytes each.
pub data Value : Type 0 where
  Raw : List ℕ → Value
  Number : ℕ → Value
  Unit : ℕ → Value
  Text : List ℕ → Value
  Day : List ℕ → Value
  NotSet : Value
  NoDate : List ℕ → Value
  Variables : List (List ℕ) → Value

-- Bytes as one number, with the most significant byte first.
abbrev pub number_in : List ℕ → ℕ
number_in bytes = fold (λ number byte. 256 * number + byte) 0 bytes

-- The character that six bits stand for: its code ends in these bits, and lies between hex 20 and 5F.
abbrev pub character : ℕ → ℕ
character bits = if nat_lt bits 32 then bits + 64 else bits

-- The four characters in three bytes: six bits each, the first character in the highest bits.
abbrev pub characters_of : (a b c : ℕ) → List ℕ
characters_of a b c =
    character (a / 4) ∷ character (16 * (a % 4) + b / 16) ∷ character (4 * (b % 16) + c / 64) ∷ character (c % 64) ∷ []

-- The text of packed bytes: four characters for every three bytes.
abbrev pub unpacked : List ℕ → List ℕ
unpacked (a ∷ b ∷ c ∷ rest) = characters_of a b c ++ unpacked rest
unpacked _ = []

-- Whether a character of ISO Latin-1 can be printed: it is no control character.
abbrev pub is_printable : ℕ → Bool
is_printable code = (nat_le 32 code && nat_le code 126) || nat_le 160 code

-- The text in ISO Latin-1, if all its characters can be printed. Otherwise its bytes.
unfoldable pub held_latin : List ℕ → Value
held_latin bytes = if list_all is_printable bytes then Text (encode_utf8_all bytes) else Raw bytes

-- A number below a hundred as two digits.
abbrev pub two_digits : ℕ → List ℕ
two_digits number = decimal (number / 10) ++ decimal (number % 10)

-- The text of a day: its year, month and day, with hyphens between them.
abbrev pub day_words : (day month year : ℕ) → List ℕ
day_words day month year = decimal (1900 + year) ++ codes "-" ++ two_digits month ++ codes "-" ++ two_digits day

-- The date in three bytes. Three zeros are a date that is not set. Other bytes are a day of the calendar, or no date.
abbrev pub held_date : List ℕ → Value
held_date (day ∷ month ∷ year ∷ []) =
    if (day == 0) && (month == 0) && (year == 0) then NotSet
    else if is_date (day ∷ month ∷ year ∷ []) then Day (day_words day month year)
    else NoDate (day ∷ month ∷ year ∷ [])
held_date bytes = NoDate bytes

-- The value of a field of this kind.
abbrev pub held_value : FieldKind → List ℕ → Value
held_value kinds.Bytes bytes = Raw bytes
held_value kinds.Float bytes = Raw bytes
held_value kinds.Number bytes = Number (number_in bytes)
held_value kinds.UnitCode bytes = Unit (number_in bytes)
held_value kinds.PackedText bytes = Text (unpacked bytes)
held_value kinds.LatinText bytes = held_latin bytes
held_value kinds.Date bytes = held_date bytes
held_value kinds.Variables bytes = Variables (first_chunks 8 (length bytes / 8) bytes)

-- A value in the code, as a `Value` of these definitions.
abbrev pub seen_value : ValueInCode → Value
seen_value (given.Raw bytes) = Raw bytes.now
seen_value (given.Number number) = Number number
seen_value (given.Unit code) = Unit code
seen_value (given.Text text) = Text text
seen_value (given.Day text) = Day text
seen_value given.NotSet = NotSet
seen_value (given.NoDate bytes) = NoDate bytes.now
seen_value (given.Variables variables) = Variables variables.now
