-- The places outside messages: which of them have a miss.
use Rattle.std.proofs.Common.{◌≡◌, ◌≤◌, ◌<◌, ◌+◌, ◌-◌, ℕ, zero, suc, true, false, List, [], ◌∷◌, ◌++◌, length, drop}
use Rattle.std.proofs.Common.{take, Option, None, Some, inl, inr, refl, sym, append_assoc, arith, length-append, length-drop}
use Rattle.std.proofs.lemmas.Bool.Decides.{nat_tests}
use Rattle.std.proofs.lemmas.Grind.{common_steps}
use Rattle.std.proofs.lemmas.List.{take-append-drop}
use Rattle.std.proofs.lemmas.List.Elements.{Contains-append_cases, Contains-append_left, Contains-append_right, Contains-get_or}
use Rattle.std.proofs.lemmas.List.Kept.{AllPairs-cons}
use Rattle.std.specs.List.{flat_map, range_with_len}
use Rattle.std.specs.Option.{option_map_or}
use Rattle.std.specs.Prelude.{AllPairs, Contains, option_map}
use Rattle.hart_frame.specs.declared.heard.found.Found.{Found}
use Rattle.hart_frame.specs.declared.heard.miss.Miss.{Miss}
use Rattle.hart_frame.specs.declared.heard.miss.Miss.TheVariants.{OnePreamble}
use Rattle.hart_frame.specs.heard.Character.{Character, faultless}
use Rattle.hart_frame.specs.heard.Frames.{AreFrames, first, moved, none}
use Rattle.hart_frame.specs.heard.Place.{HasFrameAt}
use Rattle.hart_frame.specs.heard.Miss.{follows_one_preamble, is_start, miss_of}
use Rattle.hart_frame.specs.heard.Place.{StandsIn, IsStart}
use Rattle.hart_frame.proofs.lemmas.heard.Place.{start_test}
use Rattle.hart_frame.specs.heard.Sighting.{Missed, Seen, header_at, miss_in_whole, missed, seen_miss}
use Rattle.hart_frame.specs.wire.Header.{HeaderParts}
use Rattle.hart_listen.specs.Gaps.{IsGap, seen_place}

-- the list of the sighting at a place: its miss, changed by `told`, with its header; or the empty list if the place has no miss
abbrev pub told_at : (Miss → Miss) → (ℕ → Option Miss) → (ℕ → Option HeaderParts) → ℕ → List Seen
told_at told f h place = option_map_or (λ miss. Missed place (told miss) (h place) ∷ []) (f place) []

abbrev pub told_from : (Miss → Miss) → (ℕ → Option Miss) → (ℕ → Option HeaderParts) → ℕ → ℕ → List Seen
told_from told f h a n = flat_map (λ place. told_at told f h place) (range_with_len a n)

-- a sighting that is told for a place stands at that place, and has its miss and its header
at_is : (told : Miss → Miss) (found : Option Miss) (own header : Option HeaderParts) (a place : ℕ) (miss : Miss)
    → Contains (option_map_or (λ m. Missed a (told m) own ∷ []) found []) (Missed place miss header)
    → (place ≡ a) × (option_map told found ≡ Some miss) × (header ≡ own)
at_is told None own header a place miss has = absurd (grind arith)
at_is told (Some m) own header a place miss (zero, below, is) = grind (arith, common_steps)
at_is told (Some m) own header a place miss (suc k, below, is) = absurd (omega (arith, below))

-- a sighting that is told for `n` places from `a` on stands at one of them, and has the miss of that place
pub told_is : (told : Miss → Miss) (f : ℕ → Option Miss) (h : ℕ → Option HeaderParts) (a n place : ℕ) (miss : Miss)
    (header : Option HeaderParts) → Contains (told_from told f h a n) (Missed place miss header)
    → (a ≤ place) × (place < a + n) × (option_map told (f place) ≡ Some miss) × (header ≡ h place)
told_is told f h a zero place miss header has = grind arith
told_is told f h a (suc n) place miss header has =
    elim (Contains-append_cases (told_at told f h a) (told_from told f h (a + 1) n) (Missed place miss header) has) [
      | inl here ↦
          let (same, is, own) = at_is told (f a) (h a) header a place miss here in
          (omega (arith, same), omega (arith, same), rw same is, rw same own)
      | inr later ↦
          let is = told_is told f h (a + 1) n place miss header later in (omega (arith, is.0), omega (arith, is.1), is.2, is.3)
    ]

-- a sighting that is told for places from `a` on does not stand before `a`
told_after : (told : Miss → Miss) (f : ℕ → Option Miss) (h : ℕ → Option HeaderParts) (a n : ℕ) (x : Seen)
    → Contains (told_from told f h a n) x → a ≤ seen_place x
told_after told f h a zero x has = grind arith
told_after told f h a (suc n) x has = grind (arith, common_steps, Contains-append_cases, told_after told f h (a + 1) n x)

-- for each place with a miss, a sighting is told
pub told_has : (told : Miss → Miss) (f : ℕ → Option Miss) (h : ℕ → Option HeaderParts) (a n place : ℕ) (miss : Miss) → a ≤ place
    → place < a + n → option_map told (f place) ≡ Some miss → Contains (told_from told f h a n) (Missed place miss (h place))
told_has told f h a zero place miss from below has = absurd (omega arith)
told_has told f h a (suc n) place miss from below has =
    grind (
      arith,
      Contains-append_right,
      Contains-append_left,
      Contains-get_or (told_at told f h a) 0 (Missed place miss (h place)),
      told_has told f h (a + 1) n place miss,
    )

-- sightings are told in the order of their places
pub told_in_order : (told : Miss → Miss) (f : ℕ → Option Miss) (h : ℕ → Option HeaderParts) (a n : ℕ)
    → AllPairs (λ one later. seen_place one < seen_place later) (told_from told f h a n)
told_in_order told f h a zero = λ i j d before within. absurd (omega arith)
told_in_order told f h a (suc n) = elim (f a) as (λ miss. AllPairs (λ one later. seen_place one < seen_place later)
    (option_map_or (λ m. Missed a (told m) (h a) ∷ []) miss [] ++ told_from told f h (a + 1) n)) [
      | None ↦ told_in_order told f h (a + 1) n
      | Some m ↦
          AllPairs-cons (λ one later. seen_place one < seen_place later) (Missed a (told m) (h a)) (told_from told f h (a + 1) n)
          (λ k d within. omega (arith, told_after told f h (a + 1) n _ (Contains-get_or (told_from told f h (a + 1) n) k d within)))
          (told_in_order told f h (a + 1) n)
    ]

-- a frame still stands in characters if others are put before them
stands_after : (before chars : List Character) (found : Found) (at : ℕ) → at ≤ length before → StandsIn found chars 0
    → StandsIn (moved (length before) found) (before ++ chars) at
stands_after before chars found at few stands =
    let split : before ++ chars ≡ (before ++ stands.prefix) ++ faultless (255 ∷ 255 ∷ stands.body) ++ stands.rest =
    grind (arith, append_assoc) in
    grind (arith, length-append before stands.prefix)

-- a frame in the rest of a list of characters is a frame in the list
pub stands_in_rest : (chars : List Character) (from at : ℕ) (found : Found) → at ≤ from → StandsIn found (drop from chars) 0
    → StandsIn (moved from found) chars at
stands_in_rest chars from at found before stands =
    let first : length (take from chars) ≡ from = grind (arith, common_steps, length-drop from chars) in
    rw (first, take-append-drop) at (stands_after (take from chars) (drop from chars) found at (omega arith) stands)

-- no frame stands in a gap
pub no_frame_in_gap : (chars : List Character) (at : ℕ) (frames : List Found) → AreFrames chars at frames → (from stop place : ℕ)
    → IsGap chars at frames from stop → from ≤ place → place < stop → HasFrameAt (drop from chars) (place - from) → ⊥
no_frame_in_gap chars _ _ (none at without) from stop place gap after below has = grind (arith, stands_in_rest chars from at has.0)
no_frame_in_gap chars _ _ (first at found later is are) from stop place gap after below has =
    grind (arith, stands_in_rest chars from at has.0, no_frame_in_gap chars found.stop later are from stop place)

-- if `told` returns a miss, it was given a miss
own_miss : (told : Miss → Miss) (found : Option Miss) (miss : Miss) → option_map told found ≡ Some miss
    → (own : Miss) × (found ≡ Some own) × (miss ≡ told own)
own_miss told None miss is = absurd cc
own_miss told (Some own) miss is = (own, refl, grind arith)

-- the miss that is seen at a place is the miss of the place
pub seen_is_miss : (chars : List Character) (place : ℕ) (miss : Miss) → seen_miss chars place ≡ Some miss → miss_of chars place ≡ Some miss
seen_is_miss chars place miss is = grind arith

-- each miss that is told for a gap is seen in the characters from the beginning of the gap on
pub missed_are : (chars : List Character) (from stop place : ℕ) (miss : Miss) (header : Option HeaderParts)
    → Contains (missed chars from stop) (Missed place miss header)
    → (from ≤ place) × (own : Miss) × (seen_miss (drop from chars) (place - from) ≡ Some own) × (miss ≡ miss_in_whole from own)
missed_are chars from stop place miss header has =
    let is = told_is (miss_in_whole from) (λ at. seen_miss (drop from chars) (at - from)) (header_at chars) from (stop - from) place miss
    header has in
    let own = own_miss (miss_in_whole from) (seen_miss (drop from chars) (place - from)) miss is.2 in (is.0, own.0, own.1, own.2)

-- each miss that is told for a gap stands in the gap
pub missed_within : (chars : List Character) (from stop place : ℕ) (miss : Miss) (header : Option HeaderParts)
    → Contains (missed chars from stop) (Missed place miss header) → (from ≤ place) × (place < stop)
missed_within chars from stop place miss header has =
    let is = told_is (miss_in_whole from) (λ at. seen_miss (drop from chars) (at - from)) (header_at chars) from (stop - from) place miss
    header has in (is.0, omega (arith, is.0, is.1))

-- each miss is told with the header at its place
pub missed_header : (chars : List Character) (from stop place : ℕ) (miss : Miss) (header : Option HeaderParts)
    → Contains (missed chars from stop) (Missed place miss header) → header_at chars place ≡ header
missed_header chars from stop place miss header has =
    let is = told_is (miss_in_whole from) (λ at. seen_miss (drop from chars) (at - from)) (header_at chars) from (stop - from) place miss
    header has in sym is.3

-- the miss `OnePreamble` is the same in the whole list
pub whole_one : (from : ℕ) (own miss : Miss) → miss ≡ miss_in_whole from own → own ≡ OnePreamble → miss ≡ OnePreamble
whole_one from own miss told one = rw (told, one) refl

-- where a body may start, the miss that is seen is the miss of the place
pub start_is_seen : (chars : List Character) (place : ℕ) → IsStart place chars → seen_miss chars place ≡ miss_of chars place
start_is_seen chars place start =
    let is : is_start chars place ≡ true = (start_test chars place).1 start in
    let two : follows_one_preamble chars place ≡ false = grind (arith, nat_tests) in grind (arith, two)
