use Rattle.std.proofs.Common.{◌≡◌, ◌≤◌, ◌<◌, ◌-◌, ◌*◌, ◌/◌, ◌%◌, Bool, ℕ}
use Rattle.std.proofs.Common.{suc, true, List, [], ◌∷◌, Option, None, Some, Result}
use Rattle.std.proofs.Common.{Ok, Err, ◌⊎◌, inl, inr, ◌∙◌, ap, arith, codes, get_or, if◌then◌else◌, length, refl, sym}
use Rattle.std.proofs.lemmas.Bool.{and_from}
use Rattle.std.proofs.lemmas.Bool.Decides.{nat_tests}
use Rattle.std.proofs.lemmas.Grind.{common_steps}
use Rattle.std.proofs.lemmas.Slice.Eq.{bytes_eq-Decides}
use Rattle.std.specs.List.{list_all}
use Rattle.std.specs.Option.{option_map_or}
use Rattle.std.specs.Result.{result_ok}
use Rattle.std.specs.Str.{bytes_eq, chars}
use Rattle.std.specs.Str.Parse.{digits_value, without_leading_plus}
use Rattle.jiff.specs.Words.{parse_date}
use Rattle.hart_values.specs.hart_date.Calendar.{not_set}
use Rattle.hart_values.specs.packed_text.Packing.{IsCharacter, IsPackedGroup}
use Rattle.hart_commands.specs.declared.fields.FieldKind.TheVariants.{Date, LatinText, PackedText}
use Rattle.hart_request.specs.declared.fault.FieldFault.{FieldFault}
use Rattle.hart_request.specs.declared.fault.FieldFault.TheVariants.{NoDate}
use Rattle.hart_explain.specs.Values.{character, characters_of, held_latin, is_printable, number_in, unpacked}
use Rattle.hart_request.specs.Values.{can_have, dated, greatest_of, group_number, number_bytes, number_or_fault, number_up_to, pack}
use Rattle.hart_request.specs.Values.{packed, padded, shown_value, text_value, year_byte}
use Rattle.hart_request.proofs.lemmas.Texts.{given_good}
use Rattle.hart_request.proofs.laws.values_are_shown_as_given.Goals as goal

-- the bytes of a number field are the bytes of a number that was read
number_from : (size : ℕ) (number : Option ℕ) (bytes : List ℕ) → number_or_fault size number ≡ Ok bytes
    → (read : ℕ) × (number ≡ Some read) × (bytes ≡ number_bytes size read)
number_from size None bytes is = absurd cc
number_from size (Some number) bytes is = (number, refl, cc)

-- the number that was read is the value of its digits
number_read : (greatest number : ℕ) (word : List ℕ) → number_up_to greatest word ≡ Some number
    → (number ≡ digits_value 10 (without_leading_plus word)) × (number ≤ greatest)
number_read greatest number word is = grind (arith, common_steps, nat_tests)

-- the bytes of a number are read back as that number
number_back : (size number : ℕ) → number_in (number_bytes size number) ≡ number
number_back size number = grind (arith, common_steps, nat_tests)

pub returns-clause-numbers : goal.returns-clause-numbers
returns-clause-numbers c size word bytes is =
    let from = number_from size (number_up_to (greatest_of size) word) bytes is in
    let read = number_read (greatest_of size) from.0 word from.1 in
    grind (arith, common_steps, number_back size from.0, from.2, read.0)

-- packed bytes are the packed form of a given text
packed_from : (text : Result (List ℕ) FieldFault) (bytes : List ℕ) → pack text ≡ Ok bytes
    → (given : List ℕ) × (text ≡ Ok given) × (bytes ≡ packed given)
packed_from (Ok given) bytes is = (given, refl, cc)
packed_from (Err fault) bytes is = absurd cc

-- a character is determined by its lowest six bits
character_of : (code : ℕ) → IsCharacter code → character (code % 64) ≡ code
character_of code is = grind (arith, nat_tests)

-- a packed group has the characters that were packed into it
group_is : (w x y z a b c : ℕ) → IsCharacter w → IsCharacter x → IsCharacter y → IsCharacter z → a < 256 → b < 256 → c < 256
    → IsPackedGroup w x y z a b c → characters_of a b c ≡ w ∷ x ∷ y ∷ z ∷ []
group_is w x y z a b c p q r s t u v packed = grind (arith, common_steps, character_of)

-- the bytes of a group are below 256, and make its number
group_bytes : (w x y z : ℕ) → (group_number w x y z / 65536 < 256) × (group_number w x y z / 256 % 256 < 256)
    × (group_number w x y z % 256 < 256)
    × IsPackedGroup w x y z (group_number w x y z / 65536) (group_number w x y z / 256 % 256) (group_number w x y z % 256)
group_bytes w x y z = (omega arith, omega arith, omega arith, omega arith)

-- a packed text unpacks to its characters
unpacked_packed : (groups : ℕ) (text : List ℕ) → length text ≡ 4 * groups
    → ((k : ℕ) → k < length text → IsCharacter (get_or text k 0)) → unpacked (packed text) ≡ text
unpacked_packed groups [] size good = refl
unpacked_packed groups (w ∷ x ∷ y ∷ z ∷ text) size good =
    let h = group_bytes w x y z in
    let first = group_is w x y z _ _ _ (good 0 (omega arith)) (good 1 (omega arith)) (good 2 (omega arith)) (good 3 (omega arith))
    h.0 h.1 h.2 h.3 in
    let rest = unpacked_packed (groups - 1) text (omega (arith, size)) (λ k below. good (suc (suc (suc (suc k)))) (omega arith)) in
    grind (arith, common_steps, first, rest)
unpacked_packed groups (w ∷ []) size good = absurd (omega (arith, size))
unpacked_packed groups (w ∷ x ∷ []) size good = absurd (omega (arith, size))
unpacked_packed groups (w ∷ x ∷ y ∷ []) size good = absurd (omega (arith, size))

-- a given text is the padded word, as long as its field
padded_is : (passes : ℕ → Bool) (most : ℕ) (word text : List ℕ) → text_value passes most word ≡ Ok text
    → (text ≡ padded most word) × (length text ≡ most)
padded_is passes most word text is = (grind (arith, common_steps, nat_tests), grind (arith, common_steps, nat_tests))

pub returns-clause-packed : goal.returns-clause-packed
returns-clause-packed c size word bytes sizes is =
    let from = packed_from (text_value (can_have PackedText) (4 * size / 3) (chars word)) bytes is in
    let pad = padded_is (can_have PackedText) (4 * size / 3) (chars word) from.0 from.1 in
    let good = given_good (can_have PackedText) refl (4 * size / 3) (chars word) from.0 (sym from.1) in
    let back = unpacked_packed (size / 3) from.0 (grind (arith, pad.1)) (λ k below. grind (arith, nat_tests, good k 0 below)) in
    grind (arith, common_steps, back, from.2, pad.0)

-- a text is printable if each of its characters is
all_printable : (text : List ℕ) → ((k d : ℕ) → k < length text → can_have LatinText (get_or text k d) ≡ true)
    → list_all is_printable text ≡ true
all_printable [] good = refl
all_printable (code ∷ text) good =
    and_from (is_printable code) (list_all is_printable text) (grind (arith, nat_tests, good 0 0 (omega arith)))
    (all_printable text (λ k d below. good (suc k) d (omega arith)))

pub returns-clause-latin : goal.returns-clause-latin
unfolding held_latin
returns-clause-latin c word bytes none is =
    let given : text_value (can_have LatinText) 32 (chars word) ≡ Ok bytes = grind (arith, common_steps, none) in
    let pad = padded_is (can_have LatinText) 32 (chars word) bytes given in
    let all = all_printable bytes (given_good (can_have LatinText) refl 32 (chars word) bytes (sym given)) in
    grind (arith, common_steps, all, pad.0)

-- the bytes come from one of two cases: the word is the shown word, or `other` gives the bytes
given_by : (word shown bytes given : List ℕ) (other : Result (List ℕ) FieldFault)
    → (if bytes_eq word shown then Ok bytes else other) ≡ Ok given → ((shown ≡ word) × (given ≡ bytes)) ⊎ (other ≡ Ok given)
given_by word shown bytes given other is = grind (arith, common_steps, bytes_eq-Decides word shown)

-- a day is shown as its word
dated_shown : (word : List ℕ) (day month : ℕ) (year : Option ℕ) (bytes : List ℕ) → dated word day month year ≡ Ok bytes
    → shown_value Date bytes ≡ word
dated_shown word day month None bytes is = absurd cc
dated_shown word day month (Some year) bytes is =
    elim (given_by word (shown_value Date (day ∷ month ∷ year ∷ [])) (day ∷ month ∷ year ∷ []) bytes (Err NoDate) is) [
      | inl shown ↦ ap (shown_value Date) shown.1 ∙ shown.0
      | inr other ↦ absurd cc
    ]

-- if each date with these bytes is shown as the word, so is the date that was read
read_shown : {A : Type 0} (read : Option A) (given : A → Result (List ℕ) FieldFault) (word bytes : List ℕ)
    → ((date : A) → given date ≡ Ok bytes → shown_value Date bytes ≡ word) → option_map_or given read (Err NoDate) ≡ Ok bytes
    → shown_value Date bytes ≡ word
read_shown None given word bytes each is = absurd cc
read_shown (Some date) given word bytes each is = each date is

pub returns-clause-dates : goal.returns-clause-dates
returns-clause-dates c size word bytes is =
    elim (given_by word (codes "not set") not_set bytes _ is) [
      | inl shown ↦ ap (shown_value Date) shown.1 ∙ shown.0
      | inr other ↦ read_shown (result_ok (parse_date word)) (λ date. dated word date.day date.month (year_byte date.year)) word bytes
          (λ date. dated_shown word date.day date.month (year_byte date.year) bytes) other
    ]
