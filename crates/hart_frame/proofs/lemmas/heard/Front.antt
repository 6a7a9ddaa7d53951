-- The bytes of characters, up to the first character with fault bits.
use Rattle.hart_frame.proofs.Common.{◌≡◌, ◌≢◌, ℕ, ◌+◌, ◌<◌, ◌≤◌, List, [], ◌∷◌, ◌++◌, length, take, drop, get_or, Some, refl, arith, ◌==◌}
use Rattle.hart_frame.proofs.Common.{append_assoc, length-append, nat_tests, common_steps, get_or_append_left, get_or-map, drop_more, All}
use Rattle.hart_frame.proofs.Common.{get_or-take, length-map, length-take, map-append, take-append-le, take-map, All-drop}
use Rattle.hart_frame.proofs.Common.{All-from_get_or, All-take}
use Rattle.hart_frame.proofs.Common.{slice_get, Character, faultless, faultless_bytes, IsOfBytes, bytes_of, sym, ap, ◌∙◌}
use Rattle.std.proofs.lemmas.List.{take_min}
use Rattle.std.proofs.lemmas.List.Sums.{take_while-cons}
use Rattle.hart_frame.proofs.lemmas.heard.Place.{preamble}

-- The bytes of faultless characters are the bytes from which the characters were made.
pub bytes_of-faultless : (bytes : List ℕ) → bytes_of (faultless bytes) ≡ bytes
bytes_of-faultless [] = refl
bytes_of-faultless (byte ∷ bytes) = ap (λ (xs : List ℕ). byte ∷ xs) (bytes_of-faultless bytes)

-- Bytes with the same faultless characters are the same bytes.
pub faultless-one : (bytes others : List ℕ) → faultless bytes ≡ faultless others → bytes ≡ others
faultless-one bytes others same = sym (bytes_of-faultless bytes) ∙ ap bytes_of same ∙ bytes_of-faultless others

-- A faultless character adds its byte, and a character with fault bits ends the bytes.
pub faultless_bytes-more : (first : Character) (others : List Character) → first.faults ≡ 0
    → faultless_bytes (first ∷ others) ≡ first.byte ∷ faultless_bytes others
faultless_bytes-more first others good = grind (arith, nat_tests, take_while-cons (λ (c : Character). c.faults == 0) first others)

pub faultless_bytes-end : (first : Character) (others : List Character) → first.faults ≢ 0 → faultless_bytes (first ∷ others) ≡ []
faultless_bytes-end first others bad = grind (arith, nat_tests, take_while-cons (λ (c : Character). c.faults == 0) first others)

-- There are no more faultless bytes than characters.
pub length-faultless_bytes : (chars : List Character) → length (faultless_bytes chars) ≤ length chars
length-faultless_bytes chars = grind (arith, length-map, length-take)

-- If a body is heard without faults, followed by other characters, the faultless bytes are the body and then the faultless bytes of those
-- characters.
pub faultless_bytes-append : (body : List ℕ) (rest : List Character)
    → faultless_bytes (faultless body ++ rest) ≡ body ++ faultless_bytes rest
faultless_bytes-append [] rest = refl
faultless_bytes-append (byte ∷ bytes) rest = grind (arith, common_steps, faultless_bytes-more, faultless_bytes-append bytes rest)

-- The first `count` characters are faultless, and these are their bytes.
pub record Front (heard : List Character) (count : ℕ) (bytes : List ℕ) : Type 0 where
  pub whole : faultless_bytes heard ≡ bytes ++ faultless_bytes (drop count heard)
  pub long : length bytes ≡ count

pub Front-more : (heard : List Character) (count : ℕ) (bytes : List ℕ) (c : Character) → count < length heard
    → c ≡ get_or heard count c → c.faults ≡ 0 → Front heard count bytes → Front heard (count + 1) (bytes ++ c.byte ∷ [])
Front-more heard count bytes c within is good front = grind (arith, drop_more, faultless_bytes-more, append_assoc, length-append)

-- What is heard consists of the faultless bytes at its front, as characters, followed by the other characters.
pub heard_parts : (heard : List Character)
    → heard ≡ faultless (faultless_bytes heard) ++ drop (length (faultless_bytes heard)) heard
heard_parts [] = refl
heard_parts (c ∷ cs) = grind (arith, faultless_bytes-more c cs, faultless_bytes-end c cs, heard_parts cs)

-- The character after the faultless bytes, if there is one, has fault bits.
pub after_faultless : (heard : List Character) (c : Character) → slice_get heard (length (faultless_bytes heard)) ≡ Some c
    → c.faults ≢ 0
after_faultless [] c is = absurd cc
after_faultless (x ∷ xs) c is = grind (arith, faultless_bytes-more x xs, faultless_bytes-end x xs, after_faultless xs c)

-- The first `n` characters, if none has fault bits, are the characters of the first `n` faultless bytes.
pub take_heard : (heard : List Character) (n : ℕ) → n ≤ length (faultless_bytes heard)
    → take n heard ≡ faultless (take n (faultless_bytes heard))
take_heard heard n within = grind (arith, heard_parts heard, take-append-le, length-map, take-map)

-- The character at the place of a faultless byte is this byte without faults.
pub char_at : (heard : List Character) (i : ℕ) (d : Character) → i < length (faultless_bytes heard)
    → get_or heard i d ≡ record { byte = get_or (faultless_bytes heard) i 0; faults = 0 }
char_at heard i d below = grind (arith, heard_parts heard, get_or_append_left, get_or-map, length-map)

-- If the bytes of all characters are below 256, so are the faultless bytes.
pub faultless_fit : (heard : List Character) → All (λ c. c.byte < 256) heard → All (λ byte. byte < 256) (faultless_bytes heard)
faultless_fit heard fit =
    All-from_get_or (λ byte. byte < 256) (faultless_bytes heard) 0
    (λ i below. grind (arith, char_at heard i preamble below, fit i preamble, length-faultless_bytes heard))

pub of_chars : (chars : List Character) (start : ℕ) → All (λ c. c.byte < 256) chars → IsOfBytes (drop start chars)
of_chars chars start fit = grind (arith, common_steps, All-take, faultless_fit, All-drop)

-- The faultless characters of two joined lists, before a tail, are those of the first list and then those of the second.
pub regrouped : (xs ys : List ℕ) (tail : List Character) → faultless (xs ++ ys) ++ tail ≡ faultless xs ++ (faultless ys ++ tail)
regrouped xs ys tail = grind (arith, common_steps, map-append, append_assoc)

-- A prefix of the faultless bytes is not longer than the list of characters that are heard.
pub length-front : (heard : List Character) (most : ℕ) (bytes : List ℕ) → bytes ≡ take most (faultless_bytes heard)
    → length bytes ≤ length heard
length-front heard most bytes is = grind (arith, length-take, length-faultless_bytes)

-- The characters of the first faultless bytes are the first characters that are heard.
pub front_heard : (heard : List Character) (most : ℕ)
    → faultless (take most (faultless_bytes heard)) ≡ take (length (take most (faultless_bytes heard))) heard
front_heard heard most = grind (arith, common_steps, length-take, take_min, take_heard)

-- An attribute in code cannot name lemmas with a dash in their names, so it names this rule set.
pub ruleset longer_front = (Front-more, length-take, get_or-take)
