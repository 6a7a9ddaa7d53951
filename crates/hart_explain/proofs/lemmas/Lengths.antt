-- The greatest number of characters in the words of a reading.
use Rattle.std.proofs.Common.{◌≡◌, ◌≤◌, ◌<◌, ◌+◌, ◌*◌, ◌/◌, ◌%◌, ◌==◌, ℕ, zero, suc, true, List, [], ◌∷◌, ◌++◌, Option, None, Some, IfSome}
use Rattle.std.proofs.Common.{ap, append_assoc, arith, codes, drop, length, length-append, nat_le, refl, rules, sym, take}
use Rattle.std.proofs.Math.Nat.{mul-suc}
use Rattle.std.proofs.lemmas.Bool.{and_parts}
use Rattle.std.proofs.lemmas.Bool.Decides.{nat_tests}
use Rattle.std.proofs.lemmas.Fmt.{length-decimal-le}
use Rattle.std.proofs.lemmas.Grind.{common_steps}
use Rattle.std.proofs.lemmas.List.{length-take}
use Rattle.std.proofs.lemmas.Str.{encodes-append, length-encode}
use Rattle.std.specs.List.{AllByRecursion, find, flat_map, join_by, list_all}
use Rattle.std.specs.Option.{option_map, option_map_or}
use Rattle.std.specs.Prelude.{decimal, encode_utf8_all}
use Rattle.std.specs.Simd.{first_chunks}
use Rattle.hex.specs.Hex.{IsBytes}
use Rattle.hex.proofs.HexLemmas.{length-encode_with}
use Rattle.hart_commands.specs.Fields.{Field, Row, fields_of, size_in, split, text}
use Rattle.hart_commands.specs.WellMade.{is_well_made, suits, suits_size}
use Rattle.hart_commands.proofs.lemmas.WellMade.{IsKnown, row-is, rows-are}
use Rattle.hart_commands.specs.Units.{UnitRow, unit_name, unit_row, units}
use Rattle.hart_commands.specs.declared.fields.FieldKind.{FieldKind}
use Rattle.hart_commands.specs.declared.fields.FieldKind.TheVariants as kinds
use Rattle.hart_commands.specs.declared.fields.FieldSize.{FieldSize}
use Rattle.hart_explain.specs.Values.{day_words, held_date, held_latin, held_value, number_in, two_digits, unpacked}
use Rattle.hart_explain.proofs.lemmas.Rows.{split-is}
use Rattle.hart_explain.specs.Reading.{Reading}
use Rattle.hart_commands.specs.Codes.{code_name}
use Rattle.hart_explain.specs.declared.reading.Problem.{Problem}
use Rattle.hart_explain.specs.declared.reading.Problem.TheVariants.{NoReply, NotRead, Refused, TooFew, UnknownCommand}
use Rattle.hart_explain.specs.Words.{bytes_line, field_line, name_words, problem_lines, reading_lines, hex_value, unit_words, value_words}
use Rattle.hart_explain.specs.Words.{variable_words}
use Rattle.hart_explain.proofs.lemmas.Bounded.{InRange, IsBounded, drop_bytes, take_bytes}

-- a byte has at most three decimal digits, and a number of two bytes at most five
pub decimal_byte : (n : ℕ) → n < 256 → length (decimal n) ≤ 3
decimal_byte n small = length-decimal-le 3 n (omega arith) (omega arith) (omega arith)

pub decimal_pair : (n : ℕ) → n < 65536 → length (decimal n) ≤ 5
decimal_pair n small = length-decimal-le 5 n (omega arith) (omega arith) (omega arith)

pub number_small : (bytes : List ℕ) → suits kinds.Number (length bytes) ≡ true → IsBytes bytes → number_in bytes < 65536
number_small (a ∷ []) is are = omega (arith, are 0)
number_small (a ∷ b ∷ []) is are = omega (arith, are 0, are 1)
number_small [] is are = absurd cc
number_small (a ∷ b ∷ c ∷ rest) is are = grind (arith, nat_tests)

pub code_small : (bytes : List ℕ) → suits kinds.UnitCode (length bytes) ≡ true → IsBytes bytes → number_in bytes < 256
code_small (a ∷ []) is are = omega (arith, are 0)
code_small [] is are = absurd cc
code_small (a ∷ b ∷ rest) is are = grind (arith, nat_tests)

-- the name of a unit has at most 45 characters
abbrev IsShort : UnitRow → Type 0
IsShort row = nat_le (length row.name) 45 ≡ true

all_short : AllByRecursion IsShort units
unfolding text
all_short = search rules

first_short : (rows : List UnitRow) (code : ℕ) → AllByRecursion IsShort rows → IfSome (find (λ row. row.code == code) rows) IsShort
first_short [] code all = tt
first_short (first ∷ rows) code all = let rest = first_short rows code all.1 in grind (arith, common_steps)

of_row : (row : Option UnitRow) (name : List ℕ) → IfSome row IsShort → option_map (λ row. row.name) row ≡ Some name → length name ≤ 45
of_row None name short is = cc
of_row (Some row) name short is = grind (arith, nat_tests)

unit_name-short : (code : ℕ) (name : List ℕ) → unit_name code ≡ Some name → length name ≤ 45
unfolding unit_row
unit_name-short code name is = of_row (unit_row code) name (first_short units code all_short) is

unit-fits : (code : ℕ) → code < 256 → length (unit_words code) ≤ 51
unit-fits code small = grind (arith, common_steps, length-append, decimal_byte, unit_name-short)

-- bytes have two hex digits each
pub hex-fits : (bytes : List ℕ) → length (hex_value bytes) ≡ 2 + 2 * length bytes
unfolding hex_value
hex-fits bytes = grind (arith, length-encode_with)

-- the words of a device variable have at most 118 characters
variable-fits : (bytes : List ℕ) → IsBytes bytes → length (variable_words bytes) ≤ 118
unfolding variable_words
variable-fits bytes are =
    let code = decimal_byte _ (are 0) in
    let classification = decimal_byte _ (are 1) in
    let unit = simp length-append at (unit-fits _ (are 2)) in
    let value : length (take 4 (drop 3 bytes)) ≤ 4 = grind (arith, length-take 4 (drop 3 bytes)) in
    simp (length-append, hex-fits) (omega (arith, code, classification, unit, value))

-- if each chunk of eight bytes has a text of at most `each` characters, all chunks together have at most `each` characters per chunk
pub chunks-fit : (f : List ℕ → List ℕ) (each : ℕ) → ((chunk : List ℕ) → IsBytes chunk → length (f chunk) ≤ each) → (count : ℕ)
    (bytes : List ℕ) → IsBytes bytes → length (flat_map f (first_chunks 8 count bytes)) ≤ each * count
chunks-fit f each fit zero bytes are = omega arith
chunks-fit f each fit (suc count) bytes are =
    let first = fit (take 8 bytes) (take_bytes 8 bytes are) in
    let rest = chunks-fit f each fit count (drop 8 bytes) (drop_bytes 8 bytes are) in
    simp (length-append, mul-suc) (omega (arith, first, rest))

-- the words of a device variable, after a semicolon and a space, have at most 120 characters
further-fits : (bytes : List ℕ) → IsBytes bytes → length (codes "; " ++ variable_words bytes) ≤ 120
further-fits bytes are = omega (arith, variable-fits bytes are)

joined-fit : (count : ℕ) (bytes : List ℕ) → IsBytes bytes
    → length (join_by variable_words (codes "; ") (first_chunks 8 count bytes)) ≤ 120 * count
joined-fit zero bytes are = omega arith
joined-fit (suc count) bytes are =
    let first = variable-fits (take 8 bytes) (take_bytes 8 bytes are) in
    let further : List ℕ → List ℕ = λ variable. codes "; " ++ variable_words variable in
    let rest = chunks-fit further 120 further-fits count (drop 8 bytes) (drop_bytes 8 bytes are) in
    simp length-append (omega (arith, first, rest))

-- the text of a field has at most two bytes for each byte of the field
pub unpacked-fits : (bytes : List ℕ) → length (unpacked bytes) ≤ 2 * length bytes
unpacked-fits (a ∷ b ∷ c ∷ rest) = omega (arith, unpacked-fits rest)
unpacked-fits [] = omega arith
unpacked-fits (a ∷ []) = omega arith
unpacked-fits (a ∷ b ∷ []) = omega arith

pub utf8-fits : (bytes : List ℕ) → IsBytes bytes → length (encode_utf8_all bytes) ≤ 2 * length bytes
utf8-fits [] are = omega arith
utf8-fits (byte ∷ bytes) are =
    let small : byte < 256 = are 0 in
    let rest = utf8-fits bytes (λ i. are (suc i)) in grind (arith, common_steps, nat_tests, length-append, length-encode byte)

-- the text of a day in three bytes has at most 20 characters
digits-fit : (n : ℕ) → n < 256 → length (two_digits n) ≤ 6
digits-fit n small =
    let high = decimal_byte (n / 10) (omega arith) in
    let low = decimal_byte (n % 10) (omega arith) in simp length-append (omega (arith, high, low))

pub day-fits : (day month year : ℕ) → day < 256 → month < 256 → year < 256 → length (day_words day month year) ≤ 20
day-fits day month year d m y =
    let first = decimal_pair (1900 + year) (omega arith) in
    let second = simp length-append at (digits-fit month m) in
    let third = simp length-append at (digits-fit day d) in simp length-append (omega (arith, first, second, third))

date-fits : (bytes : List ℕ) → IsBytes bytes → length (value_words (held_date bytes)) ≤ 2 * length bytes + 36
date-fits (day ∷ month ∷ year ∷ []) are =
    let fits = day-fits day month year (are 0) (are 1) (are 2) in
    grind (arith, common_steps, length-append, hex-fits, fits)
date-fits [] are = grind (arith, length-append, hex-fits)
date-fits (a ∷ []) are = grind (arith, length-append, hex-fits)
date-fits (a ∷ b ∷ []) are = grind (arith, length-append, hex-fits)
date-fits (a ∷ b ∷ c ∷ d ∷ rest) are = grind (arith, length-append, hex-fits)

latin-fits : (bytes : List ℕ) → IsBytes bytes → length (value_words (held_latin bytes)) ≤ 2 * length bytes + 36
unfolding held_latin
latin-fits bytes are = grind (arith, common_steps, length-append, hex-fits, utf8-fits bytes are)

-- the words of a value have at most 15 characters for each byte, and 36 more
value-fits : (kind : FieldKind) (bytes : List ℕ) → suits kind (length bytes) ≡ true → IsBytes bytes
    → length (value_words (held_value kind bytes)) ≤ 15 * length bytes + 36
value-fits kinds.Bytes bytes is are = omega (arith, hex-fits bytes)
value-fits kinds.Float bytes is are = omega (arith, hex-fits bytes)
value-fits kinds.Number bytes is are = omega (arith, decimal_pair (number_in bytes) (number_small bytes is are))
value-fits kinds.UnitCode bytes is are = grind (arith, nat_tests, unit-fits (number_in bytes) (code_small bytes is are))
value-fits kinds.PackedText bytes is are = grind (arith, length-append, unpacked-fits bytes)
value-fits kinds.LatinText bytes is are = omega (arith, latin-fits bytes are)
value-fits kinds.Date bytes is are = omega (arith, date-fits bytes are)
value-fits kinds.Variables bytes is are =
    let all = joined-fit (length bytes / 8) bytes are in omega (arith, all)

-- a field has a number of bytes that its kind allows
suits-of : (kind : FieldKind) (size : FieldSize) (bytes field after : List ℕ) → suits_size kind size ≡ true
    → split size bytes ≡ Some (field, after) → suits kind (length field) ≡ true
suits-of kind size bytes field after suit is = grind (arith, common_steps, nat_tests, split-is size bytes field after is)

-- if a list is bytes, a field at its front and the rest after it are bytes too
parts-are : (size : Option ℕ) (bytes field after : List ℕ)
    → option_map {U = List ℕ × List ℕ} (λ n. (take n bytes, drop n bytes)) size ≡ Some (field, after)
    → IsBytes bytes → IsBytes field × IsBytes after
parts-are None bytes field after is are = absurd cc
parts-are (Some n) bytes field after is are =
    let pair : ◌≡◌ {A = List ℕ × List ℕ} (take n bytes, drop n bytes) (field, after) = cc in
    (rw (ap (λ parts. parts.0) pair) at (take_bytes n bytes are), rw (ap (λ parts. parts.1) pair) at (drop_bytes n bytes are))

-- a field that was found in bytes: it has a short name, and bytes in a number that its kind allows
abbrev pub FieldFits : Field → Type 0
FieldFits field =
    (length field.name ≤ 40) × (length field.words ≤ 40) × (suits field.kind (length field.bytes) ≡ true) × IsBytes field.bytes

-- `f` makes a text of each field, with at most 15 characters for each byte of the field, and `each` more
abbrev pub TextFits : (Field → List ℕ) → ℕ → Type 0
TextFits f each = (field : Field) → FieldFits field → length (f field) ≤ 15 * length field.bytes + each

found-fit : (f : Field → List ℕ) (each : ℕ) → TextFits f each → (row : Row) (others : List Row) (bytes : List ℕ)
    → IsKnown row → IsBytes bytes
    → ((after : List ℕ) → IsBytes after → length (flat_map f (fields_of others after)) ≤ 15 * length after + each * length others)
    → (found : Option (List ℕ × List ℕ)) → split row.size bytes ≡ found
    → length (flat_map f (option_map_or (λ parts. record { name = row.name; words = row.words; kind = row.kind; bytes = parts.0 }
    ∷ fields_of others parts.1) found []))
    ≤ 15 * length bytes + each * length (row ∷ others)
found-fit f each fit row others bytes known are rest None is = omega arith
found-fit f each fit row others bytes known are rest (Some (field, after)) is =
    let parts = parts-are (size_in row.size (length bytes)) bytes field after is are in
    let sizes = split-is row.size bytes field after is in
    let found : Field = record { name = row.name; words = row.words; kind = row.kind; bytes = field } in
    let words = rw (sym known.words_long) at known.name_short in
    let first = fit found (known.name_short, words, suits-of row.kind row.size bytes field after known.suits is, parts.0) in
    let later = rest after parts.1 in simp (length-append, mul-suc) (omega (arith, first, later, sizes.1))

-- the texts of all fields in some bytes are short, if the text of each field is
pub fields-fit : (f : Field → List ℕ) (each : ℕ) → TextFits f each → (rows : List Row) (bytes : List ℕ)
    → list_all is_well_made rows ≡ true → IsBytes bytes
    → length (flat_map f (fields_of rows bytes)) ≤ 15 * length bytes + each * length rows
fields-fit f each fit [] bytes made are = omega arith
fields-fit f each fit (row ∷ others) bytes made are =
    let parts = and_parts (is_well_made row) (list_all is_well_made others) made in
    found-fit f each fit row others bytes (row-is row parts.0) are (λ after bytes. fields-fit f each fit others after parts.1 bytes)
    (split row.size bytes) refl

-- the line of a field has at most 15 characters for each byte, and 83 more
line-fits : TextFits field_line 83
unfolding field_line
line-fits field fit = let value = value-fits field.kind field.bytes fit.2 fit.3 in simp length-append (omega (arith, value, fit.1))

pub bytes-line-fits : (name bytes : List ℕ) → length (bytes_line name bytes) ≤ length name + 2 * length bytes + 9
bytes-line-fits name [] = omega arith
bytes-line-fits name (byte ∷ bytes) = grind (arith, length-append, hex-fits)

pub name-fits : (command code : ℕ) → length (name_words (code_name command code)) ≤ 25
name-fits command code = grind (arith, nat_tests)

problem-fits : (command : ℕ) (bytes : List ℕ) (problem : Problem) → command < 256 → length bytes ≤ 255 → InRange problem
    → length (problem_lines command bytes problem) ≤ 2 * length bytes + 62
problem-fits command bytes UnknownCommand small few range = omega (arith, bytes-line-fits (codes "data") bytes)
problem-fits command bytes (TooFew needed) small few range =
    let line = bytes-line-fits (codes "data") bytes in
    let most = length-decimal-le 20 needed (omega arith) (omega (arith, range)) range in
    let count = decimal_byte (length bytes) (omega (arith, few)) in simp length-append (omega (arith, line, most, count))
problem-fits command bytes (Refused code) small few range =
    let number = decimal_byte code range in let name = name-fits command code in simp length-append (omega (arith, number, name))
problem-fits command bytes NoReply small few range =
    let number = decimal_byte command small in grind (arith, length-append, hex-fits, number)
problem-fits command bytes (NotRead code) small few range =
    let number = decimal_byte code range in
    let line = bytes-line-fits (codes "not read (code " ++ decimal code ++ codes ")") bytes in
    let name : length (codes "not read (code " ++ decimal code ++ codes ")") ≤ 19 = simp length-append (omega (arith, number)) in
    omega (arith, line, name)

-- the lines of what is wrong are short
wrong-fits : (command : ℕ) (bytes : List ℕ) (problem : Option Problem) → command < 256 → length bytes ≤ 255 → IfSome problem InRange
    → length (option_map_or (problem_lines command bytes) problem []) ≤ 572
wrong-fits command bytes None small few range = omega arith
wrong-fits command bytes (Some problem) small few range = omega (arith, few, problem-fits command bytes problem small few range)

-- the words of a reading have at most 6,300 characters
pub words-fit : (command : ℕ) (bytes : List ℕ) (reading : Reading) → command < 256 → length bytes ≤ 255 → IsBounded reading
    → length (reading_lines command bytes reading) ≤ 6300
unfolding reading_lines
words-fit command bytes reading small few b =
    let rows = rows-are b.rows b.rows_fit in
    let fields = rw (sym b.found) at (fields-fit field_line 83 line-fits b.rows b.part rows.1 b.part_bytes) in
    let wrong = wrong-fits command bytes reading.problem small few b.range in
    let ignored = bytes-line-fits (codes "ignored") reading.ignored in
    simp length-append (omega (arith, fields, wrong, ignored, rows.0, b.part_len, b.ignored_len))

-- the rules for characters that are written one after another, each in at most two bytes
pub ruleset one_by_one = (common_steps, encodes-append, append_assoc, length-append)
