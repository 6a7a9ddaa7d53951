use Rattle.std.proofs.Common.{◌≡◌, ◌<◌, ◌*◌, ◌/◌, ◌++◌, ◌+◌, ◌-◌, if◌then◌else◌, is_some, ℕ, Bool, true, false}
use Rattle.std.proofs.Common.{List, [], ◌∷◌, ◌⊎◌, inl, inr, codes, Result, Ok, Err}
use Rattle.std.proofs.Common.{Option, None, Some, arith, ap, append-nil, get_or, length, nat_le, refl, subst, sym}
use Rattle.std.proofs.lemmas.Bool.{and_parts, eqb-true}
use Rattle.std.proofs.lemmas.Bool.Decides.{nat_tests}
use Rattle.std.proofs.lemmas.Grind.{common_steps}
use Rattle.std.proofs.lemmas.List.{drop_at, take_at}
use Rattle.std.specs.List.{list_all}
use Rattle.std.specs.Option.{option_map_or}
use Rattle.std.specs.Result.{result_ok}
use Rattle.std.specs.Str.{bytes_eq, chars}
use Rattle.jiff.specs.Words.{parse_date}
use Rattle.hart_values.specs.hart_date.Calendar.{not_set}
use Rattle.hart_commands.specs.Commands.{command_name, request_rows}
use Rattle.hart_commands.specs.Fields.{Field, Row, bytes_of, fields_of}
use Rattle.hart_commands.specs.WellMade.{can_precede, is_well_made, leave_nothing, suits, suits_size}
use Rattle.hart_commands.specs.declared.fields.FieldKind.{FieldKind}
use Rattle.hart_commands.specs.declared.fields.FieldKind.TheVariants.{Bytes, Number, UnitCode, PackedText, LatinText, Date, Float}
use Rattle.hart_commands.specs.declared.fields.FieldKind.TheVariants.{Variables}
use Rattle.hart_commands.specs.declared.fields.FieldSize.{FieldSize}
use Rattle.hart_commands.specs.declared.fields.FieldSize.TheVariants.{AllBut, Exactly}
use Rattle.hart_commands.proofs.lemmas.WellMade.{request_rows-are, row-is, rows-are, the_table_is_well_made-requests}
use Rattle.hart_commands.specs.RequestData.{Reading, request_reading}
use Rattle.hart_request.specs.declared.fault.BadField.{BadField}
use Rattle.hart_request.specs.declared.fault.FieldFault.{FieldFault}
use Rattle.hart_request.specs.declared.fault.FieldFault.TheVariants.{NoBytes, NoDate, UnknownCommand}
use Rattle.hart_request.specs.Fields.{data_of_fields, field_value, first_bad_name, joined, payload_of, place_for, taken}
use Rattle.hart_request.specs.Fields.{taken_by}
use Rattle.hart_request.specs.Fields.{unless_bad, value_in}
use Rattle.hart_station.specs.Given.{AreGiven}
use Rattle.hart_request.specs.Values.{bytes_value, can_have, codes_value, date_value, dated, has_hex_prefix, hex_of}
use Rattle.hart_request.specs.Values.{latin_value, pack, packed, shown_value, sized, text_value, value_of, year_byte}
use Rattle.hart_station.proofs.laws.fields_of_requests_are_those_given.Goals as goal

-- packed text has three bytes for every four characters
length-packed : (groups : ℕ) (text : List ℕ) → length text ≡ 4 * groups → length (packed text) ≡ 3 * groups
length-packed groups [] h = omega (arith, h)
length-packed groups (w ∷ x ∷ y ∷ z ∷ text) h =
    let rest = length-packed (groups - 1) text (omega (arith, h)) in omega (arith, rest, h)
length-packed groups (w ∷ []) h = absurd (omega (arith, h))
length-packed groups (w ∷ x ∷ []) h = absurd (omega (arith, h))
length-packed groups (w ∷ x ∷ y ∷ []) h = absurd (omega (arith, h))

-- a given text is as long as its field
length-text : (passes : ℕ → Bool) (most : ℕ) (word text : List ℕ) → text_value passes most word ≡ Ok text → length text ≡ most
length-text passes most word text is = grind (arith, common_steps, nat_tests)

-- packed bytes are the packed form of a given text
packed_from : (text : Result (List ℕ) FieldFault) (bytes : List ℕ) → pack text ≡ Ok bytes
    → (given : List ℕ) × (text ≡ Ok given) × (bytes ≡ packed given)
packed_from (Ok given) bytes is = (given, refl, cc)
packed_from (Err fault) bytes is = absurd cc

-- a packed text has three bytes for each four characters
length-packed_value : (size : ℕ) (word bytes : List ℕ) → suits PackedText size ≡ true
    → pack (text_value (can_have PackedText) (4 * size / 3) word) ≡ Ok bytes → length bytes ≡ size
length-packed_value size word bytes suits is =
    let from = packed_from (text_value (can_have PackedText) (4 * size / 3) word) bytes is in
    let most = length-text (can_have PackedText) (4 * size / 3) word from.0 from.1 in
    let groups : size ≡ 3 * (size / 3) = grind (arith, nat_tests) in
    let packs = length-packed (size / 3) from.0 (omega (arith, most, groups)) in
    omega (arith, packs, groups, ap length from.2)

-- a result that depends on a test is one of two results
either : (held : Bool) (given other : Result (List ℕ) FieldFault) (bytes : List ℕ) → (if held then given else other) ≡ Ok bytes
    → (given ≡ Ok bytes) ⊎ (other ≡ Ok bytes)
either true given other bytes is = inl is
either false given other bytes is = inr is

-- a value in hex has as many bytes as its field
length-sized : (size : ℕ) (found : Option (List ℕ)) (bytes : List ℕ) → sized (NoBytes size) size size found ≡ Ok bytes
    → length bytes ≡ size
length-sized size None bytes is = absurd cc
length-sized size (Some given) bytes is = grind (arith, common_steps, nat_tests)

-- a given text in ISO Latin-1 has as many bytes as its field
length-latin : (size : ℕ) (word bytes : List ℕ) → latin_value size word ≡ Ok bytes → length bytes ≡ size
length-latin size word bytes is =
    elim (either (has_hex_prefix word) (bytes_value size word) (text_value (can_have LatinText) size (chars word)) bytes is) [
      | inl given ↦ length-sized size (hex_of word) bytes given
      | inr given ↦ length-text (can_have LatinText) size (chars word) bytes given
    ]

-- if bytes were made of what was found, then something was found
made_of : {T : Type 0} (make : T → Result (List ℕ) FieldFault) (found : Option T) (fault : FieldFault) (bytes : List ℕ)
    → option_map_or make found (Err fault) ≡ Ok bytes → (t : T) × (make t ≡ Ok bytes)
made_of make None fault bytes is = absurd cc
made_of make (Some t) fault bytes is = (t, is)

-- a date has three bytes
length-dated : (word : List ℕ) (day month : ℕ) (year : Option ℕ) (bytes : List ℕ) → dated word day month year ≡ Ok bytes
    → length bytes ≡ 3
length-dated word day month None bytes is = absurd cc
length-dated word day month (Some year) bytes is =
    elim (either (bytes_eq word (shown_value Date (day ∷ month ∷ year ∷ []))) (Ok (day ∷ month ∷ year ∷ [])) (Err NoDate) bytes is) [
      | inl given ↦ grind arith
      | inr none ↦ absurd cc
    ]

length-date : (word bytes : List ℕ) → date_value word ≡ Ok bytes → length bytes ≡ 3
length-date word bytes is =
    elim (either (bytes_eq word (codes "not set")) (Ok not_set) _ bytes is) [
      | inl given ↦ grind arith
      | inr found ↦
          let (date, made) = made_of (λ date. dated word date.day date.month (year_byte date.year)) (result_ok (parse_date word)) NoDate
          bytes found in
          length-dated word date.day date.month (year_byte date.year) bytes made
    ]

-- a value has as many bytes as its field
length-value : (kind : FieldKind) (size : ℕ) (word bytes : List ℕ) → suits kind size ≡ true
    → value_of kind (Exactly size) word ≡ Ok bytes → length bytes ≡ size
length-value Bytes size word bytes suits is = grind (arith, common_steps, nat_tests)
length-value Number size word bytes suits is = grind (arith, common_steps, nat_tests)
length-value UnitCode size word bytes suits is = grind (arith, common_steps, nat_tests)
length-value PackedText size word bytes suits is = length-packed_value size (chars word) bytes suits is
length-value LatinText size word bytes suits is = length-latin size word bytes is
length-value Date size word bytes suits is =
    let three = length-date word bytes is in let sized : size ≡ 3 = grind (arith, nat_tests) in omega (arith, three, sized)
length-value Float size word bytes suits is = grind (arith, common_steps, nat_tests)
length-value Variables size word bytes suits is = grind (arith, common_steps, nat_tests)

-- a list of codes has at least one code
some_codes : (word bytes : List ℕ) → codes_value word ≡ Ok bytes → 0 < length bytes
some_codes word bytes is = grind (arith, common_steps, nat_tests)

-- a row with these parts, and the field that it has in some bytes
abbrev a_row : (name shown : List ℕ) → FieldSize → FieldKind → Row
a_row name shown size kind = record { name = name; words = shown; size = size; kind = kind }

abbrev a_field : (name shown : List ℕ) → FieldKind → List ℕ → Field
a_field name shown kind bytes = record { name = name; words = shown; kind = kind; bytes = bytes }

-- the first field of some data has the bytes at the front
first_field : (name shown : List ℕ) (kind : FieldKind) (size : ℕ) (rows : List Row) (value rest : List ℕ) → length value ≡ size
    → fields_of (a_row name shown (Exactly size) kind ∷ rows) (value ++ rest) ≡ a_field name shown kind value ∷ fields_of rows rest
first_field name shown kind size rows value rest is =
    grind (arith, common_steps, nat_tests, take_at value rest size is, drop_at value rest size is)

-- a field that takes all bytes that are left is the only field in these bytes
last_field : (name shown : List ℕ) (kind : FieldKind) (value : List ℕ) → 0 < length value
    → fields_of (a_row name shown (AllBut 0) kind ∷ []) value ≡ a_field name shown kind value ∷ []
last_field name shown kind value is = grind (arith, common_steps, nat_tests)

-- data that were given are a value and the data after it
parts : (first rest : Result (List ℕ) BadField) (bytes : List ℕ) → joined first rest ≡ Ok bytes
    → (value : List ℕ) × (later : List ℕ) × (first ≡ Ok value) × (rest ≡ Ok later) × (bytes ≡ value ++ later)
parts (Ok value) (Ok later) bytes is = (value, later, refl, refl, cc)
parts (Ok value) (Err bad) bytes is = absurd cc
parts (Err bad) rest bytes is = absurd cc

-- if a field has a value, a word gives this value
by_word : (command field : ℕ) (words : List (List ℕ)) (row : Row) (value : List ℕ) → field_value command field words row ≡ Ok value
    → (place_for words row < length words) × (value_of row.kind row.size (value_in (get_or words (place_for words row) [])) ≡ Ok value)
by_word command field words row value is = grind (arith, common_steps, nat_tests)

-- data fall into the given fields: split by these rows, they have the fields that the words give, and no byte is left over
abbrev Falls : List (List ℕ) → List Row → List ℕ → Type 0
Falls words rows bytes = AreGiven words rows (fields_of rows bytes) × (bytes_of (fields_of rows bytes) ≡ bytes)

-- if one more given value is put before data that fall into given fields, they still do
more : (words : List (List ℕ)) (name shown : List ℕ) (kind : FieldKind) (size : FieldSize) (rows : List Row) (value later : List ℕ)
    → suits_size kind size ≡ true → can_precede size rows ≡ true
    → place_for words (a_row name shown size kind) < length words
    → value_of kind size (value_in (get_or words (place_for words (a_row name shown size kind)) [])) ≡ Ok value
    → (rows ≡ [] → later ≡ []) → Falls words rows later → Falls words (a_row name shown size kind ∷ rows) (value ++ later)
more words name shown kind (Exactly size) rows value later suit last place is none falls =
    let long = length-value kind size _ value (and_parts (suits kind size) (nat_le size 32) suit).0 is in
    rw (first_field name shown kind size rows value later long)
    ((record { named = refl; in_words = refl; meant = refl; given = place; value = is }, falls.0), ap (λ bs. value ++ bs) falls.1)
more words name shown kind (AllBut after) [] value later suit last place is none falls =
    let some = some_codes (value_in (get_or words (place_for words (a_row name shown (AllBut after) kind)) [])) value is in
    rw (none refl, append-nil value, eqb-true after 0 last, last_field name shown kind value some)
    ((record { named = refl; in_words = refl; meant = refl; given = place; value = is }, tt), append-nil value)
more words name shown kind (AllBut after) (row ∷ rows) value later suit last place is none falls = absurd cc

-- nothing comes after the last field
none_left : (command field : ℕ) (words : List (List ℕ)) (rows : List Row) (later : List ℕ)
    → data_of_fields command field words rows ≡ Ok later → rows ≡ [] → later ≡ []
none_left command field words [] later is none = cc
none_left command field words (row ∷ rows) later is none = absurd cc

falls : (command field : ℕ) (words : List (List ℕ)) (rows : List Row) (bytes : List ℕ) → list_all is_well_made rows ≡ true
    → leave_nothing rows ≡ true → data_of_fields command field words rows ≡ Ok bytes → Falls words rows bytes
falls command field words [] bytes made last is = (tt, cc)
falls command field words (row ∷ rows) bytes made last is =
    let p = parts (field_value command field words row) (data_of_fields command (field + 1) words rows) bytes is in
    let w = by_word command field words row p.0 p.2 in
    let m = and_parts (is_well_made row) (list_all is_well_made rows) made in
    let l = and_parts (can_precede row.size rows) (leave_nothing rows) last in
    subst (λ (bs : List ℕ). Falls words (row ∷ rows) bs) (sym p.4)
    (more words row.name row.words row.kind row.size rows p.0 p.1 (row-is row m.0).suits l.0 w.0 w.1
    (none_left command (field + 1) words rows p.1 p.3) (falls command (field + 1) words rows p.1 m.1 l.1 p.3))

-- the bytes that are taken are the bytes that were read
read_inv : (bytes taken_bytes : List ℕ) (reading : Reading) → taken bytes reading ≡ Ok taken_bytes → bytes ≡ taken_bytes
read_inv bytes taken_bytes (Ok request) is = cc
read_inv bytes taken_bytes (Err code) is = absurd cc

taken_inv : (command : ℕ) (given : Result (List ℕ) BadField) (bytes : List ℕ) → taken_by command given ≡ Ok bytes → given ≡ Ok bytes
taken_inv command (Ok given) bytes is = ap (λ bs. Ok bs) (read_inv given bytes (request_reading command given) is)
taken_inv command (Err bad) bytes is = absurd cc

unless_inv : (bad : Option BadField) (given : Result (List ℕ) BadField) (bytes : List ℕ)
    → unless_bad bad given ≡ Ok bytes → given ≡ Ok bytes
unless_inv (Some bad) given bytes is = absurd cc
unless_inv None given bytes is = is

known_inv : (known : Bool) (given : Result (List ℕ) BadField) (bad : BadField) (bytes : List ℕ)
    → (if known then given else Err bad) ≡ Ok bytes → given ≡ Ok bytes
known_inv true given bad bytes is = is
known_inv false given bad bytes is = absurd cc

-- the data given by words are the data of the fields
data_are : (command : ℕ) (words : List (List ℕ)) (bytes : List ℕ) → payload_of command words ≡ Ok bytes
    → data_of_fields command 0 words (request_rows command) ≡ Ok bytes
data_are command words bytes is =
    taken_inv command (data_of_fields command 0 words (request_rows command)) bytes
    (unless_inv (first_bad_name (request_rows command) [] words)
    (taken_by command (data_of_fields command 0 words (request_rows command))) bytes (known_inv (is_some (command_name command))
    (unless_bad (first_bad_name (request_rows command) [] words) (taken_by command (data_of_fields command 0 words (request_rows command))))
    (record { number = 3; fault = UnknownCommand }) bytes is))

given_fall : (words : List (List ℕ)) (command : ℕ) (bytes : List ℕ) → payload_of command words ≡ Ok bytes
    → Falls words (request_rows command) bytes
given_fall words command bytes is =
    let rows = request_rows-are (request_rows command) (the_table_is_well_made-requests command) in
    falls command 0 words (request_rows command) bytes (rows-are (request_rows command) rows.0).1 rows.2 (data_are command words bytes is)

pub returns-clause-given : goal.returns-clause-given
returns-clause-given c words frame is = (given_fall words.fields frame.command frame.payload is.payload).0

pub returns-clause-whole : goal.returns-clause-whole
returns-clause-whole c words frame is = (given_fall words.fields frame.command frame.payload is.payload).1
