-- The greatest number of characters in the members of a reading, as members of an object of JSON.
use Rattle.std.proofs.Common.{◌≡◌, ◌≤◌, ◌<◌, ◌+◌, ◌*◌, ◌/◌, ℕ, zero, suc, true, List, [], ◌∷◌, ◌++◌, Option, None, Some, IfSome}
use Rattle.std.proofs.Common.{ap, arith, codes, drop, length, length-append, map, sym, take}
use Rattle.std.proofs.lemmas.Bool.Decides.{nat_tests}
use Rattle.std.proofs.lemmas.Fmt.{length-decimal-le}
use Rattle.std.proofs.lemmas.Grind.{common_steps}
use Rattle.std.proofs.lemmas.List.{length-take}
use Rattle.std.proofs.lemmas.List.Folds.{flat_map-map}
use Rattle.std.specs.List.{flat_map}
use Rattle.std.specs.Option.{option_map_or}
use Rattle.std.specs.Prelude.{encode_utf8_all, slice_index, slice_range}
use Rattle.std.specs.Simd.{first_chunks}
use Rattle.hex.specs.Hex.{IsBytes}
use Rattle.hex.proofs.HexLemmas.{length-encode_with}
use Rattle.json.specs.Print.{escape, escape_byte}
use Rattle.serde_json.specs.Data.{Data, null, string}
use Rattle.serde_json.specs.Written.{compact_text}
use Rattle.hart_commands.specs.Fields.{text}
use Rattle.hart_commands.specs.declared.fields.FieldKind.{FieldKind}
use Rattle.hart_commands.specs.declared.fields.FieldKind.TheVariants as kinds
use Rattle.hart_commands.specs.WellMade.{suits}
use Rattle.hart_commands.proofs.lemmas.WellMade.{rows-are}
use Rattle.hart_explain.specs.Values.{day_words, held_date, held_latin, held_value, number_in, unpacked}
use Rattle.hart_explain.proofs.lemmas.Json.{escape-hex, further-is, items-is}
use Rattle.hart_explain.specs.Json.{Named, field_member, further_member, further_members, hex, list_of, name_or_null, named, object_of}
use Rattle.hart_explain.specs.Json.{problem_data, reading_members, value_data, variable_data}
use Rattle.hart_explain.specs.Reading.{Reading}
use Rattle.hart_commands.specs.Codes.{code_name}
use Rattle.hart_explain.specs.declared.reading.Problem.{Problem}
use Rattle.hart_explain.specs.declared.reading.Problem.TheVariants.{NoReply, NotRead, Refused, TooFew, UnknownCommand}
use Rattle.hart_explain.proofs.lemmas.Bounded.{InRange, IsBounded, drop_bytes, take_bytes}
use Rattle.hart_explain.proofs.lemmas.Lengths.{TextFits, chunks-fit, code_small, day-fits, decimal_byte, decimal_pair, fields-fit}
use Rattle.hart_explain.proofs.lemmas.Lengths.{number_small, unpacked-fits, utf8-fits}

-- a character of a string has at most six bytes
byte-fits : (byte : ℕ) → length (escape_byte byte) ≤ 6
unfolding escape_byte
byte-fits byte = grind (arith, common_steps, nat_tests)

escape-fits : (bytes : List ℕ) → length (escape bytes) ≤ 6 * length bytes
escape-fits [] = omega arith
escape-fits (byte ∷ bytes) = simp length-append (omega (arith, byte-fits byte, escape-fits bytes))

-- bytes as a string have two characters for each byte, and two quotes
hex-data-fits : (bytes : List ℕ) → IsBytes bytes → length (compact_text (hex bytes)) ≡ 2 + 2 * length bytes
hex-data-fits bytes are = grind (arith, length-append, length-encode_with, escape-hex bytes (λ i. omega (arith, are i)))

pub string-fits : (text : List ℕ) → length (compact_text (string text)) ≤ 6 * length text + 2
string-fits text = simp length-append (omega (arith, escape-fits text))

one_byte : (byte : ℕ) → byte < 256 → IsBytes (byte ∷ [])
one_byte byte small zero = small
one_byte byte small (suc i) = omega arith

-- a device variable as an object has at most 100 characters
variable-data-fits : (bytes : List ℕ) → IsBytes bytes → length (compact_text (variable_data bytes)) ≤ 100
unfolding escape_byte
variable-data-fits bytes are =
    let code = decimal_byte _ (are 0) in
    let classification = decimal_byte _ (are 1) in
    let unit = decimal_byte _ (are 2) in
    let few : length (slice_range bytes 3 7) ≤ 4 = grind (arith, length-take 4 (drop 3 bytes)) in
    let value = simp length-append at (hex-data-fits (slice_range bytes 3 7) (take_bytes 4 (drop 3 bytes) (drop_bytes 3 bytes are))) in
    let status = simp length-append at (hex-data-fits (slice_index bytes 7 ∷ []) (one_byte _ (are 7))) in
    simp length-append (omega (arith, code, classification, unit, few, value, status))

further-data-fits : (bytes : List ℕ) → IsBytes bytes → length (44 ∷ [] ++ compact_text (variable_data bytes)) ≤ 101
further-data-fits bytes are = omega (arith, variable-data-fits bytes are)

-- a list has the characters of its values, a comma for each, and at most two more
list-fits : (f : List ℕ → Data) (first : List ℕ) (others : List (List ℕ)) (each rest : ℕ) → length (compact_text (f first)) ≤ each
    → length (flat_map (λ x. 44 ∷ [] ++ compact_text (f x)) others) ≤ rest
    → length (compact_text (list_of (map f (first ∷ others)))) ≤ each + rest + 2
list-fits f first others each rest one few =
    let later = simp length-append at (ap length (items-is f others)) in simp length-append (omega (arith, later, one, few))

variables-data-fit : (count : ℕ) (bytes : List ℕ) → IsBytes bytes
    → length (compact_text (list_of (map variable_data (first_chunks 8 count bytes)))) ≤ 101 * count + 2
variables-data-fit zero bytes are = omega arith
variables-data-fit (suc count) bytes are =
    let first = variable-data-fits (take 8 bytes) (take_bytes 8 bytes are) in
    let further : List ℕ → List ℕ = λ variable. 44 ∷ [] ++ compact_text (variable_data variable) in
    let rest = chunks-fit further 101 further-data-fits count (drop 8 bytes) (drop_bytes 8 bytes are) in
    let all = list-fits variable_data (take 8 bytes) (first_chunks 8 count (drop 8 bytes)) 100 (101 * count) first rest in
    omega (arith, all)

-- the value of a field has at most 15 characters for each byte, and 100 more
date-data-fits : (bytes : List ℕ) → IsBytes bytes → length (compact_text (value_data (held_date bytes))) ≤ 15 * length bytes + 100
date-data-fits (day ∷ month ∷ year ∷ []) are =
    let fits = day-fits day month year (are 0) (are 1) (are 2) in
    grind (arith, common_steps, hex-data-fits (day ∷ month ∷ year ∷ []) are, string-fits (day_words day month year), fits)
date-data-fits [] are = omega (arith, hex-data-fits [] are)
date-data-fits (a ∷ []) are = omega (arith, hex-data-fits (a ∷ []) are)
date-data-fits (a ∷ b ∷ []) are = omega (arith, hex-data-fits (a ∷ b ∷ []) are)
date-data-fits (a ∷ b ∷ c ∷ d ∷ rest) are = omega (arith, hex-data-fits (a ∷ b ∷ c ∷ d ∷ rest) are)

latin-data-fits : (bytes : List ℕ) → IsBytes bytes → length (compact_text (value_data (held_latin bytes))) ≤ 15 * length bytes + 100
unfolding held_latin
latin-data-fits bytes are =
    grind (arith, common_steps, hex-data-fits bytes are, string-fits (encode_utf8_all bytes), utf8-fits bytes are)

value-data-fits : (kind : FieldKind) (bytes : List ℕ) → suits kind (length bytes) ≡ true → IsBytes bytes
    → length (compact_text (value_data (held_value kind bytes))) ≤ 15 * length bytes + 100
value-data-fits kinds.Bytes bytes is are = omega (arith, hex-data-fits bytes are)
value-data-fits kinds.Float bytes is are = omega (arith, hex-data-fits bytes are)
value-data-fits kinds.Number bytes is are = omega (arith, decimal_pair (number_in bytes) (number_small bytes is are))
value-data-fits kinds.UnitCode bytes is are = omega (arith, decimal_byte (number_in bytes) (code_small bytes is are))
value-data-fits kinds.PackedText bytes is are = omega (arith, string-fits (unpacked bytes), unpacked-fits bytes)
value-data-fits kinds.LatinText bytes is are = omega (arith, latin-data-fits bytes are)
value-data-fits kinds.Date bytes is are = omega (arith, date-data-fits bytes are)
value-data-fits kinds.Variables bytes is are =
    let all = variables-data-fit (length bytes / 8) bytes are in omega (arith, all)

-- the member of a field has at most 15 characters for each byte, and 344 more
member-fits : TextFits (λ field. further_member (field_member field)) 344
unfolding further_member
member-fits field fit =
    let name = escape-fits field.name in
    let value = value-data-fits field.kind field.bytes fit.2 fit.3 in simp length-append (omega (arith, name, value, fit.0))

-- an object has the characters of its members, a comma for each, and at most two more
pub object-fits : (members : List Named) → length (compact_text (object_of members)) ≤ length (further_members members) + 2
unfolding further_member
object-fits [] = omega arith
object-fits (first ∷ others) =
    let later = simp length-append at (ap length (further-is others)) in simp length-append (omega (arith, later))

fields-data-fit : (reading : Reading) → IsBounded reading → length (compact_text (object_of (map field_member reading.fields))) ≤ 9331
fields-data-fit reading b =
    let rows = rows-are b.rows b.rows_fit in
    let fields = fields-fit (λ field. further_member (field_member field)) 344 member-fits b.rows b.part rows.1 b.part_bytes in
    let all = rw (sym b.found, sym (flat_map-map further_member field_member reading.fields)) at fields in
    omega (arith, object-fits (map field_member reading.fields), all, rows.0, b.part_len)

-- the name of a response code is short, as a string or as null
name-data-fits : (name : Option (List ℕ)) → IfSome name (λ name. length name ≤ 23) → length (compact_text (name_or_null name)) ≤ 140
name-data-fits None short = omega arith
name-data-fits (Some name) short = omega (arith, string-fits name, short)

pub code_name-short : (command code : ℕ) → IfSome (code_name command code) (λ name. length name ≤ 23)
code_name-short command code = grind (arith, common_steps, nat_tests)

problem-data-fits : (command : ℕ) (problem : Problem) → InRange problem → length (compact_text (problem_data command problem)) ≤ 200
unfolding escape_byte
problem-data-fits command UnknownCommand range = omega arith
problem-data-fits command (TooFew needed) range =
    let most = length-decimal-le 20 needed (omega arith) (omega (arith, range)) range in simp length-append (omega (arith, most))
problem-data-fits command (Refused code) range =
    let number = decimal_byte code range in
    let name = name-data-fits (code_name command code) (code_name-short command code) in simp length-append (omega (arith, number, name))
problem-data-fits command NoReply range = omega arith
problem-data-fits command (NotRead code) range =
    let number = decimal_byte code range in simp length-append (omega (arith, number))

wrong-data-fits : (command : ℕ) (problem : Option Problem) → IfSome problem InRange
    → length (compact_text (option_map_or (problem_data command) problem null)) ≤ 200
wrong-data-fits command None range = omega arith
wrong-data-fits command (Some problem) range = problem-data-fits command problem range

-- a member has the characters of its name and of its value, and a few more
pub named-fits : (name : List ℕ) (value : Data)
    → length (further_member (record { name = name; value = value })) ≤ 4 + 6 * length name + length (compact_text value)
unfolding further_member
named-fits name value = simp length-append (omega (arith, escape-fits name))

-- if four members are short, they are short together
four-fit : (a b c d : List ℕ) → length a ≤ 600 → length b ≤ 9400 → length c ≤ 600 → length d ≤ 300
    → length (a ++ (b ++ (c ++ (d ++ [])))) ≤ 12000
four-fit a b c d first second third fourth = simp length-append (omega (arith, first, second, third, fourth))

-- the members of a reading have at most 12,000 characters
pub members-fit : (command : ℕ) (bytes : List ℕ) (reading : Reading) → IsBytes bytes → length bytes ≤ 255 → IsBounded reading
    → length (further_members (reading_members command bytes reading)) ≤ 12000
members-fit command bytes reading are few b =
    let fields = object_of (map field_member reading.fields) in
    let wrong = option_map_or (problem_data command) reading.problem null in
    let first = named-fits (codes "data") (hex bytes) in
    let second = named-fits (codes "fields") fields in
    let third = named-fits (codes "ignored") (hex reading.ignored) in
    let fourth = named-fits (codes "problem") wrong in
    let all = hex-data-fits bytes are in
    let ignored = hex-data-fits reading.ignored b.ignored_bytes in
    four-fit (further_member (named "data" (hex bytes))) (further_member (named "fields" fields))
    (further_member (named "ignored" (hex reading.ignored))) (further_member (named "problem" wrong))
    (omega (arith, first, all, few)) (omega (arith, second, fields-data-fit reading b))
    (omega (arith, third, ignored, b.ignored_len)) (omega (arith, fourth, wrong-data-fits command reading.problem b.range))
