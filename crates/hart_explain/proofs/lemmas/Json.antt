-- The text of objects and lists of JSON.
use Rattle.std.proofs.Common.{◌≡◌, ◌<◌, ◌/◌, ◌%◌, ℕ, suc, Bool, true, List, [], ◌∷◌, ◌++◌, append-nil, append_assoc, arith}
use Rattle.std.proofs.Common.{Fits, get_or, length-append, map, nat_le, refl, w8}
use Rattle.std.proofs.lemmas.Bool.{and_parts}
use Rattle.std.proofs.lemmas.Bool.Decides.{nat_tests}
use Rattle.std.proofs.lemmas.Grind.{common_steps, flat_map-append}
use Rattle.std.proofs.lemmas.List.Folds.{list_all_at}
use Rattle.std.specs.List.{flat_map, list_all}
use Rattle.std.specs.Prelude.{◌&&◌, slice_index}
use Rattle.hex.specs.Hex.{encode_upper, encode_with, upper_digits}
use Rattle.json.specs.Print.{escape, escape_byte}
use Rattle.serde_json.specs.Data.{Data}
use Rattle.hart_commands.specs.WellMade.{is_name_byte}
use Rattle.serde_json.specs.Written.{compact_text, items_text, members_text}
use Rattle.hart_explain.proofs.lemmas.Extended.{also, extended_nothing, extended_on}
use Rattle.hart_explain.specs.Text.{extended}
use Rattle.hart_explain.specs.Json.{Named, further_member, further_members, items_of, member_words, members_of, object_of}

-- the text of further members, followed by a brace, ends an object
pub further-is : (members : List Named) → members_text true (members_of members) ≡ further_members members ++ 125 ∷ []
unfolding further_member
further-is [] = refl
further-is (first ∷ others) = grind (arith, append_assoc, further-is others)

-- the text of an object is its first member and the further members, in braces
pub object-is : (first : Named) (others : List Named)
    → compact_text (object_of (first ∷ others)) ≡ 123 ∷ member_words first ++ further_members others ++ 125 ∷ []
unfolding further_member
object-is first others = grind (arith, append_assoc, further-is others)

-- the text of further values, followed by a bracket, ends a list
pub items-is : {X : Type 0} (f : X → Data) (xs : List X)
    → items_text true (items_of (map f xs)) ≡ flat_map (λ x. 44 ∷ [] ++ compact_text (f x)) xs ++ 93 ∷ []
items-is f [] = refl
items-is f (x ∷ xs) = grind (arith, append_assoc, items-is f xs)

-- whether a byte lies between the codes of `0` and `F`: a hex digit, or a character between the digits and the letters
is_near_digit : ℕ → Bool
is_near_digit code = nat_le 48 code && nat_le code 70

-- a hex digit is not escaped
escape-digit : (k : ℕ) → k < 16 → escape_byte (slice_index upper_digits k) ≡ slice_index upper_digits k ∷ []
unfolding escape_byte is_near_digit
escape-digit k below = grind (arith, common_steps, nat_tests, list_all_at is_near_digit upper_digits k 0)

-- a string of hex digits is not escaped
pub escape-hex : (bytes : List ℕ) → ((i : ℕ) → Fits w8 (get_or bytes i 0)) → escape (encode_upper bytes) ≡ encode_upper bytes
unfolding encode_with
escape-hex [] fits = refl
escape-hex (byte ∷ bytes) fits =
    let first : byte < 256 = omega (arith, fits 0) in
    let rest = escape-hex bytes (λ i. fits (suc i)) in
    grind (arith, escape-digit (byte / 16), escape-digit (byte % 16))

-- JSON escapes no byte of a name
name-byte : (code : ℕ) → is_name_byte code ≡ true → escape_byte code ≡ code ∷ []
unfolding escape_byte
name-byte code is = grind (arith, common_steps, nat_tests)

pub escape-name : (name : List ℕ) → list_all is_name_byte name ≡ true → escape name ≡ name
escape-name [] is = refl
escape-name (code ∷ name) is =
    let parts = and_parts (is_name_byte code) (list_all is_name_byte name) is in
    grind (arith, name-byte code parts.0, escape-name name parts.1)

-- the rules for the member of a field
pub ruleset plain_names = (extended_on, extended_nothing, append_assoc, append-nil, escape-name)

-- the rules for objects and lists that are printed piece by piece
pub ruleset said = (extended_on, extended_nothing, append_assoc, append-nil, object-is, items-is)

-- the rule by which what is printed for joined bytes is printed for both parts
pub ruleset part_by_part = (common_steps, flat_map-append)

-- the rules for a string of hex digits that is printed in quotes
pub ruleset quoted_digits = (extended_on, extended_nothing, append_assoc, append-nil, escape-hex)

-- if two calls each added members, all these members were added in order
pub members-on : (a b c : List ℕ) (xs ys : List Named) → b ≡ extended a (further_members xs) → c ≡ extended b (further_members ys)
    → c ≡ extended a (further_members (xs ++ ys))
members-on a b c xs ys h k = rw (flat_map-append further_member xs ys) (also a b c _ _ h k)

-- the rules for an object that is printed in a line of its own
pub ruleset line_of = (extended_on, extended_nothing, append_assoc, append-nil, length-append)
