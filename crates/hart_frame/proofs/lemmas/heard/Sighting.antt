-- What is seen in the rest of a list, and what is seen after a character other than FF.
use Rattle.hart_frame.proofs.Common.{◌≡◌, ℕ, zero, suc, ◌+◌, ◌-◌, ◌<◌, ◌≤◌, Bool, true, false, List, [], ◌∷◌, length, map, drop, Option, ap}
use Rattle.hart_frame.proofs.Common.{None, Some, ◌∙◌, ◌⊎◌, inl, inr, sym, arith, refl, length-drop, nat_tests, common_steps, drop_all, ◌&&◌}
use Rattle.hart_frame.proofs.Common.{drop_more, drop-drop, map-append, flat_map, range_with_len, slice_get, option_map_or, not, Found, Miss}
use Rattle.hart_frame.proofs.Common.{OnePreamble, Character, moved, body_miss, stands_alone, Missed, Seen, header_at, missed_at, sightings}
use Rattle.hart_frame.proofs.Common.{miss_in_whole, two_begin_in_body, HeaderParts, follows_preamble, is_preamble, missed, moved_seen}
use Rattle.hart_frame.proofs.Common.{seen_miss}
use Rattle.hart_frame.proofs.lemmas.heard.Front.{faultless_bytes-more}
use Rattle.hart_frame.proofs.lemmas.heard.Place.{preamble, rest_at}
use Rattle.std.specs.Prelude.{if◌then◌else◌, is_none, nat_lt, option_map}
use Rattle.hart_frame.proofs.lemmas.heard.Place.{tested}

-- What is seen at a place of the rest of a list is seen `n` places later in the list.
told_moved : (n from p : ℕ) (h : Option HeaderParts) (m : Option Miss)
    → option_map_or (λ miss. Missed (n + p) (miss_in_whole (n + from) miss) h ∷ []) m []
    ≡ map (moved_seen n) (option_map_or (λ miss. Missed p (miss_in_whole from miss) h ∷ []) m [])
told_moved n from p h m = grind (arith, common_steps)

at_moved : (chars : List Character) (n from p : ℕ) → missed_at chars (n + from) (n + p)
    ≡ map (moved_seen n) (missed_at (drop n chars) from p)
at_moved chars n from p =
    let same : n + p - (n + from) ≡ p - from = omega arith in
    let rest : drop from (drop n chars) ≡ drop (n + from) chars = grind (arith, drop-drop) in
    let there : drop p (drop n chars) ≡ drop (n + p) chars = grind (arith, drop-drop) in
    rw (same, rest, there) (told_moved n from p (header_at chars (n + p)) (seen_miss (drop (n + from) chars) (p - from)))

places_moved : (chars : List Character) (n from a k : ℕ)
    → flat_map (λ p. missed_at chars (n + from) p) (range_with_len (n + a) k)
    ≡ map (moved_seen n) (flat_map (λ p. missed_at (drop n chars) from p) (range_with_len a k))
places_moved chars n from a zero = refl
places_moved chars n from a (suc k) =
    let next : n + a + 1 ≡ n + (a + 1) = omega arith in
    grind (arith, common_steps, map-append, at_moved chars n from a, places_moved chars n from (a + 1) k)

missed_moved : (chars : List Character) (n from stop end : ℕ) → end - (n + from) ≡ stop - from
    → missed chars (n + from) end ≡ map (moved_seen n) (missed (drop n chars) from stop)
missed_moved chars n from stop end same = rw same (places_moved chars n from from (stop - from))

-- What is seen in the rest of a list from a place on is seen in the list `n` places later.
pub sightings_moved : (chars : List Character) (n from : ℕ) (frames : List Found)
    → sightings chars (n + from) (map (moved n) frames) ≡ map (moved_seen n) (sightings (drop n chars) from frames)
sightings_moved chars n from [] = missed_moved chars n from (length (drop n chars)) (length chars) (omega (arith, length-drop n chars))
sightings_moved chars n from (found ∷ later) =
    let gap = missed_moved chars n from found.start (n + found.start) (omega arith) in
    grind (arith, common_steps, map-append, sightings_moved chars n found.stop later)

-- The miss of characters at `n + start` is their miss at `start`, with its places moved by `n`.
pub body_moved : (n start : ℕ) (heard : List Character) → option_map (miss_in_whole n) (body_miss start heard) ≡ body_miss (n + start) heard
body_moved n start heard = grind (arith, nat_tests)

-- `is_preamble_at`: whether a faultless FF stands at a place. `follows_from`: whether the place lies after `from` and a faultless FF stands
-- right before it.
abbrev pub is_preamble_at : List Character → ℕ → Bool
is_preamble_at chars place = option_map_or is_preamble (slice_get chars place) false

abbrev pub follows_from : List Character → ℕ → ℕ → Bool
follows_from chars from place = nat_lt from place && is_preamble_at chars (place - 1)

follows_is : (chars : List Character) (from place : ℕ) → follows_preamble (drop from chars) (place - from) ≡ follows_from chars from place
follows_is chars from place = grind (arith, nat_tests, rest_at chars from (place - from - 1))

-- The miss that is seen at a place, in places of the whole list. It depends on whether one or two FF stand right before the place,
-- and on whether a character other than FF stands at it.
abbrev pub whole_miss : List Character → ℕ → Bool → Bool → Bool → Option Miss
whole_miss chars place one two asked =
    if one then if two then if asked then body_miss place (drop place chars) else None
    else if stands_alone chars place then Some OnePreamble else None
    else None

abbrev pub is_other_at : List Character → ℕ → Bool
is_other_at chars place = option_map_or (λ first. not (is_preamble first)) (slice_get chars place) false

pub is_none-map : {A B : Type 0} (f : A → B) (m : Option A) → is_none (option_map f m) ≡ is_none m
is_none-map f m = grind arith

-- Renumbering the places in a miss does not change which miss is seen.
pick : (f : Miss → Miss) (m told : Option Miss) (one two asked crossed : Bool) → option_map f m ≡ told → f OnePreamble ≡ OnePreamble
    → option_map f (if (one && not two) && crossed then None
    else if (one && two) && asked then m else if (one && not two) && is_none m then Some OnePreamble else None)
    ≡ (if one then if two then if asked then told else None else if is_none told && not crossed then Some OnePreamble else None else None)
pick f m told one two asked crossed is same = grind (arith, nat_tests, is_none-map f m)

miss_is : (chars : List Character) (from place : ℕ) → from ≤ place
    → option_map (miss_in_whole from) (seen_miss (drop from chars) (place - from))
    ≡ whole_miss chars place (follows_from chars from place) (follows_from chars from (place - 1)) (is_other_at chars place)
miss_is chars from place after =
    let at : from + (place - from) ≡ place = omega (arith, after) in
    let before : place - from - 1 ≡ place - 1 - from = omega arith in
    let rest : drop (place - from) (drop from chars) ≡ drop place chars = grind (arith, drop-drop) in
    let told = rw at at (body_moved from (place - from) (drop place chars)) in
    rw (follows_is chars from place, before, follows_is chars from (place - 1), rest_at chars from (place - from), at, rest)
    (pick (miss_in_whole from) (body_miss (place - from) (drop place chars)) (body_miss place (drop place chars))
    (follows_from chars from place) (follows_from chars from (place - 1)) (is_other_at chars place) (two_begin_in_body chars place)
    told refl)

-- What is seen at a place: its miss, if it has one, with its header.
abbrev pub told : ℕ → Option HeaderParts → Option Miss → List Seen
told place h m = option_map_or (λ miss. Missed place miss h ∷ []) m []

told_is : (from place : ℕ) (h : Option HeaderParts) (m : Option Miss)
    → option_map_or (λ miss. Missed place (miss_in_whole from miss) h ∷ []) m [] ≡ told place h (option_map (miss_in_whole from) m)
told_is from place h m = grind arith

told_at : (chars : List Character) (from place : ℕ) → from ≤ place → missed_at chars from place
    ≡ told place (header_at chars place)
    (whole_miss chars place (follows_from chars from place) (follows_from chars from (place - 1)) (is_other_at chars place))
told_at chars from place after =
    told_is from place (header_at chars place) (seen_miss (drop from chars) (place - from))
    ∙ ap (told place (header_at chars place)) (miss_is chars from place after)

-- The second FF before a place matters only if a first one stands right before the place.
same_miss : (chars : List Character) (place : ℕ) (one two other asked : Bool) → (one ≡ true → two ≡ other)
    → whole_miss chars place one two asked ≡ whole_miss chars place one other asked
same_miss chars place one two other asked same = grind (arith, nat_tests)

same_at : (chars : List Character) (from to place : ℕ) → from ≤ place → to ≤ place
    → follows_from chars from place ≡ follows_from chars to place
    → (follows_from chars to place ≡ true → follows_from chars from (place - 1) ≡ follows_from chars to (place - 1))
    → missed_at chars from place ≡ missed_at chars to place
same_at chars from to place after later one two = grind (arith, told_at, same_miss)

-- Nothing is seen at a place if no FF stands right before it, or if FF or nothing stands at it.
pub unasked : (chars : List Character) (from place : ℕ) → from ≤ place → follows_from chars from place ≡ false
    → missed_at chars from place ≡ []
unasked chars from place after not = told_at chars from place after ∙ rw not refl

no_body : (chars : List Character) (place : ℕ) → is_other_at chars place ≡ false → stands_alone chars place ≡ false
no_body chars place is =
    grind (arith, nat_tests, tested chars place, drop_more chars place preamble, faultless_bytes-more, drop_all place chars)

pub not_other : (chars : List Character) (from place : ℕ) → from ≤ place → is_other_at chars place ≡ false
    → missed_at chars from place ≡ []
not_other chars from place after is = told_at chars from place after ∙ rw (is, no_body chars place is) (grind (arith, nat_tests))

-- After a single FF, a miss is seen at a place exactly if a body stands alone there.
pub after_one : (chars : List Character) (from place : ℕ) → from ≤ place → follows_from chars from place ≡ true
    → follows_from chars from (place - 1) ≡ false → missed_at chars from place
    ≡ told place (header_at chars place) (if stands_alone chars place then Some OnePreamble else None)
after_one chars from place after follows one = told_at chars from place after ∙ rw (follows, one) refl

-- After two FF, the reason why no body begins at a place is the miss that is seen there.
pub after_two : (chars : List Character) (from place : ℕ) → from ≤ place → follows_from chars from place ≡ true
    → follows_from chars from (place - 1) ≡ true → is_other_at chars place ≡ true
    → missed_at chars from place ≡ told place (header_at chars place) (body_miss place (drop place chars))
after_two chars from place after follows two other = told_at chars from place after ∙ rw (follows, two, other) refl

-- A place `used` is clean in three cases: it is `from`, or no FF stands right before it; two FF begin there; or the list ends there. What
-- is seen from a clean place on does not depend on whether characters count from `from` on or from `used` on.
abbrev pub IsClean : List Character → ℕ → ℕ → Type 0
IsClean chars from used = (from < used → is_preamble_at chars (used - 1) ≡ false)
    ⊎ ((is_preamble_at chars used ≡ true) × (is_preamble_at chars (used + 1) ≡ true))
    ⊎ (length chars ≤ used)

pub not_both : (chars : List Character) (place : ℕ) → is_preamble_at chars place ≡ true → is_other_at chars place ≡ false
not_both chars place is = grind (arith, nat_tests, tested chars place)

pub same_from : (chars : List Character) (from used place : ℕ) → from ≤ used → used ≤ place → IsClean chars from used
    → missed_at chars from place ≡ missed_at chars used place
same_from chars from used place order after (inl cut) =
    let one : follows_from chars from place ≡ follows_from chars used place = grind (arith, nat_tests) in
    let two : follows_from chars used place ≡ true → follows_from chars from (place - 1) ≡ follows_from chars used (place - 1) =
    grind (arith, nat_tests) in
    same_at chars from used place (omega (arith, order, after)) after one two
same_from chars from used place order after (inr ends) =
    let cases : (is_other_at chars place ≡ false) ⊎ (used + 2 ≤ place) =
    grind (arith, nat_tests, not_both chars place, tested chars place) in
    elim cases [
      | inl not ↦ not_other chars from place (omega (arith, order, after)) not ∙ sym (not_other chars used place after not)
      | inr late ↦
          let one : follows_from chars from place ≡ follows_from chars used place = grind (arith, nat_tests) in
          let two : follows_from chars from (place - 1) ≡ follows_from chars used (place - 1) = grind (arith, nat_tests) in
          same_at chars from used place (omega (arith, order, after)) after one (λ _. two)
    ]
