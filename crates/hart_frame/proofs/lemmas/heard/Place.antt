-- Where a frame stands, where its body begins, and where a body may start in a list of characters.
use Rattle.hart_frame.proofs.Common.{◌≡◌, ℕ, ◌+◌, ◌<◌, ◌≤◌, List, ◌∷◌, ◌++◌, length, drop, take, ap, sym, ◌∙◌, arith, append_assoc, drop_at}
use Rattle.hart_frame.proofs.Common.{length-append, common_steps, get_or-drop, length-drop, length-map, length-take-le, take-append-drop}
use Rattle.hart_frame.proofs.Common.{slice_get-get_or, slice_get_cases, slice_get, Found, Character, faultless, HasNoFrame, StandsIn}
use Rattle.hart_frame.proofs.Common.{IsBody, FrameParts, ◌↔◌, true, false, not, ◌≢◌, zero, suc, ◌-◌, ◌⊎◌, inl, inr, [], get_or, nat_tests}
use Rattle.hart_frame.proofs.Common.{option_map_or, IsStart, is_preamble, is_start, get_or-append-add}
use Rattle.std.proofs.Common.{drop-cons}
use Rattle.hart_frame.specs.heard.Place.{HasNoStart, IsFirstStart}

-- The faultless preamble byte FF.
abbrev pub preamble : Character
preamble = record { byte = 255; faults = 0 }

-- A frame that starts at `place + 2` has its two FF and its body in the list from `place` on.
pub StandsIn-at : (chars : List Character) (place from : ℕ) (found : Found) (stands : StandsIn found chars from)
    → found.start ≡ place + 2 → drop place chars ≡ faultless (255 ∷ 255 ∷ stands.body) ++ stands.rest
StandsIn-at chars place from found stands start = grind (arith, append_assoc, drop_at)

-- A frame stands at a place where two FF and its body begin.
pub stands_at : (chars : List Character) (place : ℕ) (f : FrameParts) (body : List ℕ) (rest : List Character) → place ≤ length chars
    → drop place chars ≡ faultless (255 ∷ 255 ∷ body) ++ rest → IsBody f body
    → StandsIn (record { start = place + 2; stop = place + 2 + length body; frame = f }) chars place
stands_at chars place f body rest within parts is =
    let split : chars ≡ take place chars ++ faultless (255 ∷ 255 ∷ body) ++ rest =
    rw (append_assoc (take place chars))
    (sym (take-append-drop place chars) ∙ ap (λ (cs : List Character). take place chars ++ cs) parts) in
    grind (arith, length-take-le place chars within)

-- If a frame stands in a list, it also stands from `from` on, for each `from` that is at least two places before its start.
pub StandsIn-from : (found : Found) (chars : List Character) (place from : ℕ) → StandsIn found chars place → from + 2 ≤ found.start
    → StandsIn found chars from
StandsIn-from found chars place from stands after = grind arith

-- A frame lies within its list.
pub record LiesWithin (found : Found) (chars : List Character) (from : ℕ) : Type 0 where
  pub after : from + 2 ≤ found.start
  pub some : found.start < found.stop
  pub within : found.stop ≤ length chars

pub StandsIn-within : (found : Found) (chars : List Character) (from : ℕ) → StandsIn found chars from → LiesWithin found chars from
StandsIn-within found chars from stands = grind (arith, length-append, length-map)

-- No frame stands from the end of a list on.
pub HasNoFrame-end : (chars : List Character) (from : ℕ) → length chars ≤ from → HasNoFrame chars from
HasNoFrame-end chars from end found stands = grind (arith, StandsIn-within found chars from stands)

-- The character at place `n` of the rest of a list is the one at place `start + n` of the list.
pub rest_at : (chars : List Character) (start n : ℕ) → slice_get (drop start chars) n ≡ slice_get chars (start + n)
rest_at chars start n = grind (arith, common_steps, slice_get_cases, slice_get-get_or, get_or-drop, length-drop)

-- A list has at most one first start.
pub IsFirstStart-one : (place other : ℕ) (chars : List Character) → IsFirstStart place chars → IsFirstStart other chars → place ≡ other
IsFirstStart-one place other chars p q = omega (arith, p.least other q.start, q.least place p.start)

-- Two FF stand right before a start, and a character other than FF stands at it. `d` is the default that is read past the end of the list,
-- and may be any character.
pub record StartsAt (chars : List Character) (place : ℕ) (d : Character) : Type 0 where
  pub after_two : 2 ≤ place
  pub within : place < length chars
  pub one : get_or chars (place - 2) d ≡ preamble
  pub two : get_or chars (place - 1) d ≡ preamble
  pub other : get_or chars place d ≢ preamble

pub starts_at : (chars : List Character) (place : ℕ) (d : Character) → IsStart place chars → StartsAt chars place d
starts_at chars place d is = grind (arith, common_steps, preamble, append_assoc, length-append, get_or-append-add)

pub is_start_from : (chars : List Character) (place : ℕ) (d : Character) → StartsAt chars place d → IsStart place chars
is_start_from chars place d at =
    let k : ℕ = place - 2 in
    let last : List Character = drop (suc (suc (suc k))) chars in
    let dropped : drop k chars ≡ preamble ∷ preamble ∷ get_or chars place d ∷ last = grind (arith, drop-cons, preamble) in
    let split : chars ≡ take k chars ++ (preamble ∷ preamble ∷ []) ++ get_or chars place d ∷ last =
    grind (arith, common_steps, take-append-drop k chars, append_assoc) in
    let long = length-take-le k chars (omega (arith, at.within)) in
    grind (arith, at.after_two, at.other)

-- The character at a place is a faultless FF, another character, or absent. Two tests, for FF and for another character, tell which of the
-- three it is.
pub tested : (chars : List Character) (k : ℕ)
    → ((option_map_or is_preamble (slice_get chars k) false ≡ true) × (k < length chars) × (get_or chars k preamble ≡ preamble)
    × (option_map_or (λ (c : Character). not (is_preamble c)) (slice_get chars k) false ≡ false))
    ⊎ ((option_map_or is_preamble (slice_get chars k) false ≡ false) × (k < length chars) × (get_or chars k preamble ≢ preamble)
    × (option_map_or (λ (c : Character). not (is_preamble c)) (slice_get chars k) false ≡ true))
    ⊎ ((option_map_or is_preamble (slice_get chars k) false ≡ false) × (length chars ≤ k)
    × (option_map_or (λ (c : Character). not (is_preamble c)) (slice_get chars k) false ≡ false))
tested chars k = grind (arith, nat_tests, slice_get_cases chars k, slice_get-get_or chars k preamble, preamble)

-- The test `is_start` is true exactly at the places where a body may start.
pub start_test : (chars : List Character) (place : ℕ) → (is_start chars place ≡ true) ↔ IsStart place chars
start_test chars place =
    grind (arith, is_start_from, starts_at chars place preamble, tested chars (place - 1), tested chars (place - 2), tested chars place)

-- No start lies before a place.
abbrev pub NoneBefore : List Character → ℕ → Type 0
NoneBefore chars place = (other : ℕ) → IsStart other chars → place ≤ other

-- A list has no start if none lies before its end.
pub no_start : (chars : List Character) (place : ℕ) → NoneBefore chars place → length chars ≤ place → HasNoStart chars
no_start chars place none end other is = omega (arith, none other is, (starts_at chars other preamble is).within, end)

-- A list has a first start, or no start lies before a place.
first_before : (chars : List Character) (place : ℕ) → ((first : ℕ) × IsFirstStart first chars) ⊎ NoneBefore chars place
first_before chars zero = inr (λ other is. omega arith)
first_before chars (suc n) = elim (first_before chars n) [
  | inl found ↦ inl found
  | inr none ↦
      let test = start_test chars n in
      let cases : (is_start chars n ≡ true) ⊎ (is_start chars n ≡ false) = grind arith in
      elim cases [ inl here ↦ inl (n, record { start = test.0 here; least = none }) | inr not_here ↦ inr (λ place is. grind arith) ]
]

-- A list has a first start, or it has no start.
pub first_start_decided : (chars : List Character) → ((first : ℕ) × IsFirstStart first chars) ⊎ HasNoStart chars
first_start_decided chars = elim (first_before chars (length chars)) [
  | inl found ↦ inl found
  | inr none ↦ inr (no_start chars (length chars) none (omega arith))
]
