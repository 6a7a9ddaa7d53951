-- What comes next in bytes, and what is seen in the characters that are heard.
use Rattle.hart_frame.proofs.Common.{◌≡◌, ◌≢◌, ℕ, ◌-◌, ◌<◌, ◌≤◌, ◌⊎◌, inl, inr, true, false, List, ◌++◌, length, get_or, arith, refl}
use Rattle.hart_frame.proofs.Common.{length-append, nat_tests, get_or_append_left, get_or_at, get_or-map, length-map, Found, After}
use Rattle.hart_frame.proofs.Common.{Character, faultless, StandsIn, heard_with, FollowsTwo, IsAsked, MayFollow, [], ◌∙◌, common_steps}
use Rattle.hart_frame.specs.private.Sighting.{IsSilent}
use Rattle.std.proofs.lemmas.Bool.{cases_Bool, false_from_ne_true}
use Rattle.hart_frame.proofs.lemmas.heard.Seen.{NoneSeen, Passes, frame_at, passes_silent}
use Rattle.hart_frame.proofs.lemmas.heard.Sighting.{IsClean, after_one, follows_from, is_other_at, is_preamble_at, not_other, unasked}
use Rattle.hart_frame.proofs.lemmas.heard.Place.{tested}

-- Each byte is heard at its place as a faultless character.
chars_at : (bytes : List ℕ) (next : List Character) (i : ℕ) (d : Character) → i < length bytes
    → get_or (faultless bytes ++ next) i d ≡ record { byte = get_or bytes i 0; faults = 0 }
chars_at bytes next i d below = grind (arith, get_or_append_left, get_or-map, length-map)

-- There are no more bytes than known characters.
pub heard_few : (bytes : List ℕ) (after : After) → length bytes ≤ length (heard_with bytes after)
heard_few bytes after = grind (arith, length-append, length-map)

-- All known characters are heard, and none of them after the bytes is a faultless FF.
pub record Known (bytes : List ℕ) (after : After) (next : List Character) : Type 0 where
  pub within : length (heard_with bytes after) ≤ length (faultless bytes ++ next)
  pub none : (i : ℕ) → length bytes ≤ i → i < length (heard_with bytes after) → is_preamble_at (faultless bytes ++ next) i ≡ false

pub known : (bytes : List ℕ) (after : After) (next : List Character) → MayFollow after next → Known bytes after next
known bytes after next follows = grind (arith, nat_tests, length-append, length-map, tested, get_or_at)

-- Among the known characters, a faultless FF is heard exactly where a byte FF stands.
pub preamble_yes : (bytes : List ℕ) (next : List Character) (i : ℕ) → i < length bytes → get_or bytes i 0 ≡ 255
    → is_preamble_at (faultless bytes ++ next) i ≡ true
preamble_yes bytes next i below is = grind (arith, nat_tests, chars_at, length-append, length-map, tested)

pub preamble_is : (bytes : List ℕ) (after : After) (next : List Character) (i : ℕ) → MayFollow after next
    → i < length (heard_with bytes after) → is_preamble_at (faultless bytes ++ next) i ≡ true
    → (i < length bytes) × (get_or bytes i 0 ≡ 255)
preamble_is bytes after next i follows within is = grind (arith, nat_tests, known, tested, chars_at)

pub preamble_no : (bytes : List ℕ) (after : After) (next : List Character) (i : ℕ) → MayFollow after next
    → i < length (heard_with bytes after) → (i < length bytes → get_or bytes i 0 ≢ 255)
    → is_preamble_at (faultless bytes ++ next) i ≡ false
preamble_no bytes after next i follows within other = grind (arith, common_steps, false_from_ne_true, preamble_is)

pub other_yes : (bytes : List ℕ) (after : After) (next : List Character) (i : ℕ) → MayFollow after next
    → i < length (heard_with bytes after) → (i < length bytes → get_or bytes i 0 ≢ 255)
    → is_other_at (faultless bytes ++ next) i ≡ true
other_yes bytes after next i follows within other =
    let no = preamble_no bytes after next i follows within other in
    grind (arith, nat_tests, no, tested (faultless bytes ++ next) i, known bytes after next follows)

-- A place that is asked in the characters is asked in the bytes.
pub asked : (bytes : List ℕ) (after : After) (next : List Character) (from place : ℕ) → MayFollow after next
    → place < length (heard_with bytes after) → follows_from (faultless bytes ++ next) from place ≡ true
    → is_other_at (faultless bytes ++ next) place ≡ true → IsAsked bytes after from place
asked bytes after next from place may within follows other = grind (arith, preamble_is, preamble_yes)

pub two_in : (bytes : List ℕ) (after : After) (next : List Character) (from place : ℕ) → MayFollow after next → place ≤ length bytes
    → follows_from (faultless bytes ++ next) from (place - 1) ≡ true → FollowsTwo bytes from place
two_in bytes after next from place may within follows = grind (arith, nat_tests, heard_few, is_preamble_at, preamble_is, within)

pub two_out : (bytes : List ℕ) (next : List Character) (from place : ℕ) → place ≤ length bytes → FollowsTwo bytes from place
    → follows_from (faultless bytes ++ next) from (place - 1) ≡ true
two_out bytes next from place within (order, is) = grind (arith, nat_tests, preamble_yes, within)

-- A place that is asked in the bytes is asked in the characters.
pub follows_in : (bytes : List ℕ) (after : After) (next : List Character) (from place : ℕ) → IsAsked bytes after from place
    → follows_from (faultless bytes ++ next) from place ≡ true
follows_in bytes after next from place is = grind (arith, nat_tests, preamble_yes)

-- Nothing is seen at the asked places before `to`.
abbrev pub SilentBefore : List ℕ → After → ℕ → ℕ → Type 0
SilentBefore bytes after from to = (place : ℕ) → IsAsked bytes after from place → place < to → IsSilent bytes after from place

-- Whatever follows, nothing is seen before a place, and no frame stands there.
module _ (bytes : List ℕ) (after : After) (next : List Character) (from to : ℕ) (may : MayFollow after next)
    (silent : SilentBefore bytes after from to) (within : to ≤ length (heard_with bytes after)) where
  pub none_seen : NoneSeen (faultless bytes ++ next) from to
  none_seen place order below =
      let chars = faultless bytes ++ next in
      let here : place < length (heard_with bytes after) = omega (arith, below, within) in
      elim (cases_Bool (follows_from chars from place)) [
        | inr not ↦ unasked chars from place order not
        | inl follows ↦ elim (cases_Bool (is_other_at chars place)) [
          | inr not ↦ not_other chars from place order not
          | inl other ↦
              let is = asked bytes after next from place may here follows other in
              let (two, alone) = silent place is below in
              elim (cases_Bool (follows_from chars from (place - 1))) [
                | inr single ↦ after_one chars from place order follows single ∙ rw (alone next may) refl
                | inl both ↦ absurd (two (two_in bytes after next from place may is.within both))
              ]
        ]
      ]

  pub late : (found : Found) → StandsIn found (faultless bytes ++ next) from → to ≤ found.start
  late found stands =
      let at = frame_at (faultless bytes ++ next) from found stands in
      let cases : (found.start < to) ⊎ (to ≤ found.start) = grind arith in
      elim cases [
        | inl below ↦
            let is = asked bytes after next from found.start may (omega (arith, below, within)) at.one at.other in
            absurd ((silent found.start is below).0 (two_in bytes after next from found.start may is.within at.two))
        | inr after ↦ after
      ]

  -- With nothing seen, the list passes to each clean place up to there.
  pub passes_clean : (used : ℕ) → from ≤ used → used ≤ to → IsClean (faultless bytes ++ next) from used
      → Passes (faultless bytes ++ next) from used []
  passes_clean used order before clean =
      passes_silent (faultless bytes ++ next) from used order (omega (arith, before, within, (known bytes after next may).within))
      (λ p low high. none_seen p low (omega (arith, high, before))) (λ found stands. omega (arith, before, late found stands)) clean
