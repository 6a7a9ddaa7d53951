-- The bytes that encode the value of a field, by the kind of the field (implementation choice).
use Rattle.std.specs.Prelude.{ℕ, ℤ, ◌+◌, ◌-◌, ◌*◌, ◌/◌, ◌%◌, ◌==◌, ◌&&◌, nat_le, nat_lt, if◌then◌else◌, Bool, List, [], ◌∷◌, ◌++◌, pos}
use Rattle.std.specs.Prelude.{codes, drop, false, length, replicate, take, Result, Ok, Err, Option, None, Some}
use Rattle.std.specs.List.{prefix_len}
use Rattle.std.specs.Option.{option_map_or}
use Rattle.std.specs.Result.{result_ok}
use Rattle.std.specs.Str.{all_ascii_digits, bytes_eq, chars}
use Rattle.std.specs.Str.Parse.{digits_value, without_leading_plus}
use Rattle.jiff.specs.Words.{parse_date}
use Rattle.hart_values.specs.hart_date.Calendar.{not_set}
use Rattle.hart_commands.specs.declared.fields.FieldKind.{FieldKind}
use Rattle.hart_commands.specs.declared.fields.FieldKind.TheVariants.{Bytes, Number, UnitCode, PackedText, LatinText, Date, Float}
use Rattle.hart_commands.specs.declared.fields.FieldKind.TheVariants.{Variables}
use Rattle.hart_commands.specs.declared.fields.FieldSize.{FieldSize}
use Rattle.hart_commands.specs.declared.fields.FieldSize.TheVariants.{Exactly, AllBut}
use Rattle.hart_text.specs.Data.{data_of}
use Rattle.hart_request.specs.declared.fault.FieldFault.{FieldFault}
use Rattle.hart_request.specs.declared.fault.FieldFault.TheVariants.{BadCharacter, NoBytes, NoCodes, NoDate, NoNumber, TooLong}
use Rattle.hart_explain.specs.Values.{held_value, is_printable}
use Rattle.hart_explain.specs.Words.{value_words}

-- A number is written in decimal digits, perhaps after a plus sign, and lies between 0 and the greatest number.
abbrev pub number_up_to : ℕ → List ℕ → Option ℕ
number_up_to greatest word =
    let digits = without_leading_plus word in
    let number = digits_value 10 digits in
    if all_ascii_digits digits && nat_lt 0 (length digits) && nat_le number greatest then Some number else None

-- A field of one byte has numbers up to 255, and a field of two bytes has numbers up to 65535.
abbrev pub greatest_of : ℕ → ℕ
greatest_of size = if size == 1 then 255 else 65535

-- A number is written as one byte, or as two bytes with the more significant byte first.
abbrev pub number_bytes : ℕ → ℕ → List ℕ
number_bytes size number = if size == 1 then number ∷ [] else (number / 256) ∷ (number % 256) ∷ []

-- The bytes of a number, or a fault if the word is no number in range.
abbrev pub number_or_fault : ℕ → Option ℕ → Result (List ℕ) FieldFault
number_or_fault size None = Err (NoNumber (greatest_of size))
number_or_fault size (Some number) = Ok (number_bytes size number)

-- The bytes of a number field, from the decimal number in its word.
abbrev pub number_value : ℕ → List ℕ → Result (List ℕ) FieldFault
number_value size word = number_or_fault size (number_up_to (greatest_of size) word)

-- Whether a word begins with `0x`, the bytes 48 and 120.
abbrev pub has_hex_prefix : List ℕ → Bool
has_hex_prefix (first ∷ second ∷ digits) = (first == 48) && (second == 120)
has_hex_prefix _ = false

-- The bytes that a word stands for. The word is `0x`, followed by at most 255 bytes in hex, as in the word DATA.
abbrev pub hex_of : List ℕ → Option (List ℕ)
hex_of word = if has_hex_prefix word then data_of (drop 2 word) else None

-- The bytes, if there are at least `least` and at most `most` of them, and otherwise this fault.
abbrev pub sized : FieldFault → (least most : ℕ) → Option (List ℕ) → Result (List ℕ) FieldFault
sized fault least most None = Err fault
sized fault least most (Some bytes) =
    if nat_le least (length bytes) && nat_le (length bytes) most then Ok bytes else Err fault

-- The bytes of a field whose value is written in hex, byte by byte.
abbrev pub bytes_value : ℕ → List ℕ → Result (List ℕ) FieldFault
bytes_value size word = sized (NoBytes size) size size (hex_of word)

-- The bytes of a field that takes all bytes that are left, from one to eight, such as the codes of Command 9.
abbrev pub codes_value : List ℕ → Result (List ℕ) FieldFault
codes_value word = sized NoCodes 1 8 (hex_of word)

-- A text, padded with spaces to this number of characters.
abbrev pub padded : ℕ → List ℕ → List ℕ
padded count text = text ++ replicate (count - length text) 32

-- The text of a field of `most` characters. If one of the first `most` characters fails the test `passes`, the first such character is bad.
-- Otherwise, a text of more than `most` characters is too long, and any other text is padded.
abbrev pub text_value : (ℕ → Bool) → ℕ → List ℕ → Result (List ℕ) FieldFault
text_value passes most text =
    let place = prefix_len passes (take most text) in
    if nat_lt place (length (take most text)) then Err (BadCharacter place)
    else if nat_lt most (length text) then Err (TooLong most)
    else Ok (padded most text)

-- Whether a field of this kind can have a character. Packed text has codes from hex 20 to 5F. Text in ISO Latin-1 has printable characters
-- with codes of one byte.
abbrev pub can_have : FieldKind → ℕ → Bool
can_have PackedText code = nat_le 32 code && nat_lt code 96
can_have _ code = is_printable code && nat_lt code 256

-- Four characters as a number of 24 bits: six bits for each, with the first character in the highest bits.
abbrev pub group_number : (w x y z : ℕ) → ℕ
group_number w x y z = 262144 * (w % 64) + 4096 * (x % 64) + 64 * (y % 64) + z % 64

-- Four characters packed into three bytes: the bytes of their `group_number`.
abbrev pub packed_group : (w x y z : ℕ) → List ℕ
packed_group w x y z =
    (group_number w x y z / 65536) ∷ (group_number w x y z / 256 % 256) ∷ (group_number w x y z % 256) ∷ []

-- The packed form of a text, made of four characters at a time.
abbrev pub packed : List ℕ → List ℕ
packed (w ∷ x ∷ y ∷ z ∷ text) = packed_group w x y z ++ packed text
packed _ = []

-- The packed form of a text, or the fault of the text.
abbrev pub pack : Result (List ℕ) FieldFault → Result (List ℕ) FieldFault
pack (Ok text) = Ok (packed text)
pack (Err fault) = Err fault

-- The bytes of a packed text: three bytes for every four characters.
abbrev pub packed_value : ℕ → List ℕ → Result (List ℕ) FieldFault
packed_value size word = pack (text_value (can_have PackedText) (4 * size / 3) (chars word))

-- The bytes of a text in ISO Latin-1. A word that begins with `0x` gives these bytes in hex. Any other word gives the characters
-- themselves.
abbrev pub latin_value : ℕ → List ℕ → Result (List ℕ) FieldFault
latin_value size word = if has_hex_prefix word then bytes_value size word else text_value (can_have LatinText) size (chars word)

-- The byte for a year, from 1900 to 2155.
abbrev pub year_byte : ℤ → Option ℕ
year_byte (pos year) = if nat_le 1900 year && nat_le year 2155 then Some (year - 1900) else None
year_byte _ = None

-- The text with which `explain` shows the bytes of a field of this kind.
abbrev pub shown_value : FieldKind → List ℕ → List ℕ
shown_value kind bytes = value_words (held_value kind bytes)

-- The bytes of a date with this year. The year must fit in its byte, and the word must be exactly what `explain` shows for these bytes.
abbrev pub dated : List ℕ → (day month : ℕ) → Option ℕ → Result (List ℕ) FieldFault
dated word day month None = Err NoDate
dated word day month (Some year) =
    if bytes_eq word (shown_value Date (day ∷ month ∷ year ∷ [])) then Ok (day ∷ month ∷ year ∷ []) else Err NoDate

-- The bytes of a date. The word is `not set`, or a day that the library jiff reads. Words that jiff also reads, but that `explain` does not
-- show, are no dates: other forms of a day, or a day with a time after it.
abbrev pub date_value : List ℕ → Result (List ℕ) FieldFault
date_value word =
    if bytes_eq word (codes "not set") then Ok not_set
    else option_map_or (λ date. dated word date.day date.month (year_byte date.year)) (result_ok (parse_date word)) (Err NoDate)

-- The bytes of the value in a word, for a field of this kind and size, or why the word has no such value.
abbrev pub value_of : FieldKind → FieldSize → List ℕ → Result (List ℕ) FieldFault
value_of kind (AllBut after) word = codes_value word
value_of Number (Exactly size) word = number_value size word
value_of UnitCode (Exactly size) word = number_value size word
value_of PackedText (Exactly size) word = packed_value size word
value_of LatinText (Exactly size) word = latin_value size word
value_of Date (Exactly size) word = date_value word
value_of Bytes (Exactly size) word = bytes_value size word
value_of Float (Exactly size) word = bytes_value size word
value_of Variables (Exactly size) word = bytes_value size word
