-- The laws of texts and of objects, for the proofs of the crates above this one.
use Rattle.std.proofs.Common.{◌≡◌, ◌≤◌, ◌+◌, ◌-◌, ℕ, List, [], ◌∷◌, ◌++◌, arith, length}
use Rattle.std.proofs.lemmas.List.{take_all}
use Rattle.hex.specs.Hex.{IsBytes, encode_upper}
use Rattle.json.specs.Print.{escape}
use Rattle.serde_json.specs.Written.{compact_text}
use Rattle.hart_explain.specs.Json.{Named, further_members, member_words, object_of}
use Rattle.hart_explain.specs.Text.{extended}
use Rattle.hart_explain.proofs.lemmas.Json.{escape-hex, object-is}

pub texts_keep_what_fits : (text more : List ℕ) → length text + length more ≤ 32768 → extended text more ≡ text ++ more
unfolding extended
texts_keep_what_fits text more few = grind (arith, take_all (32768 - length text) more)

pub hex_digits_are_not_escaped : (bytes : List ℕ) → IsBytes bytes → escape (encode_upper bytes) ≡ encode_upper bytes
hex_digits_are_not_escaped bytes are = escape-hex bytes (λ i. omega (arith, are i))

pub objects_are_their_members : (first : Named) (others : List Named)
    → compact_text (object_of (first ∷ others)) ≡ 123 ∷ member_words first ++ further_members others ++ 125 ∷ []
objects_are_their_members first others = object-is first others
