-- A place after only one preamble byte, seen in the whole list of characters and with all its frames.
use Rattle.std.proofs.Common.{◌≡◌, ◌≤◌, ◌<◌, ◌+◌, ◌-◌, ◌⊎◌, ℕ, true, false, zero, suc, All, List, [], ◌∷◌, Some, drop, inl, inr}
use Rattle.std.proofs.Common.{arith, sym, refl}
use Rattle.std.proofs.lemmas.Bool.Decides.{nat_tests}
use Rattle.std.proofs.lemmas.Grind.{common_steps}
use Rattle.std.proofs.lemmas.List.{get_or-drop}
use Rattle.std.proofs.lemmas.List.Elements.{All-cons, All-nil}
use Rattle.std.proofs.lemmas.Option.{slice_get_cases, slice_get_within}
use Rattle.std.specs.List.{Contains, slice_get}
use Rattle.hart_frame.specs.declared.heard.found.Found.{Found}
use Rattle.hart_frame.specs.heard.Character.{Character}
use Rattle.hart_frame.specs.heard.Frames.{AreFrames, first, none}
use Rattle.hart_frame.specs.heard.Miss.{follows_one_preamble, follows_preamble}
use Rattle.hart_listen.specs.Gaps.{HasOnePreamble, IsGap}

-- an intact FF
abbrev pub preamble : Character
preamble = record { byte = 255; faults = 0 }

-- each frame from a place on starts at or after that place, and stops at or after its start
starts_after : (chars : List Character) (at : ℕ) (frames : List Found) → AreFrames chars at frames
    → All (λ found. (at ≤ found.start) × (found.start ≤ found.stop)) frames
starts_after chars _ _ (none at without) = All-nil _
starts_after chars _ _ (first at found later is are) =
    let here : (at ≤ found.start) × (found.start ≤ found.stop) = grind arith in
    let rest = starts_after chars found.stop later are in
    All-cons (λ (f : Found). (at ≤ f.start) × (f.start ≤ f.stop)) found later here
    (λ k d within. let it = rest k d within in (omega (arith, it, here), it.1))

-- a gap begins at or after the first place, and each frame stops before the gap or starts after it
beside : (chars : List Character) (at : ℕ) (frames : List Found) → AreFrames chars at frames → (from stop : ℕ)
    → IsGap chars at frames from stop
    → (at ≤ from) × All (λ found. (found.stop ≤ from) ⊎ (stop ≤ found.start)) frames
beside chars _ _ (none at without) from stop gap = (omega (arith, gap.0), All-nil _)
beside chars _ _ (first at found later is are) from stop (inl gap) =
    let here : (at ≤ found.start) × (found.start ≤ found.stop) = grind arith in
    let rest = starts_after chars found.stop later are in (
      omega (arith, gap.0),
      All-cons (λ (f : Found). (f.stop ≤ from) ⊎ (stop ≤ f.start)) found later (inr (omega (arith, gap.1)))
          (λ k d within. inr (let it = rest k d within in omega (arith, it, here, gap.1))),
    )
beside chars _ _ (first at found later is are) from stop (inr gap) =
    let rest = beside chars found.stop later are from stop gap in
    let here : (at ≤ found.start) × (found.start ≤ found.stop) = grind arith in
    (omega (arith, rest.0, here), All-cons (λ (f : Found). (f.stop ≤ from) ⊎ (stop ≤ f.start)) found later (inl rest.0) rest.1)

-- a gap that does not begin at the first place begins where a frame stops
begins_at_stop : (chars : List Character) (at : ℕ) (frames : List Found) (from stop : ℕ) → IsGap chars at frames from stop
    → (from ≡ at) ⊎ ((found : Found) × Contains frames found × (found.stop ≡ from))
begins_at_stop chars at [] from stop gap = inl gap.0
begins_at_stop chars at (found ∷ later) from stop (inl gap) = inl gap.0
begins_at_stop chars at (found ∷ later) from stop (inr gap) = inr (elim (begins_at_stop chars found.stop later from stop gap) [
  | inl same ↦ (found, (0, omega arith, refl), sym same)
  | inr (f, (k, within, is), stops) ↦ (f, (suc k, omega (arith, within), is), stops)
])

-- if an intact FF stands right before a place of the rest of a list, it stands in the list, before the same place
heard_before : (chars : List Character) (from k : ℕ) → follows_preamble (drop from chars) (suc k) ≡ true
    → slice_get chars (from + k) ≡ Some preamble
heard_before chars from k is =
    grind (arith, nat_tests, common_steps, get_or-drop, slice_get_within, slice_get_cases)

-- if an intact FF of a list stands in the rest, it stands right before the next place of the rest
heard_in_rest : (chars : List Character) (from k : ℕ) → slice_get chars (from + k) ≡ Some preamble
    → follows_preamble (drop from chars) (suc k) ≡ true
heard_in_rest chars from k is =
    grind (arith, nat_tests, common_steps, get_or-drop, slice_get_within, slice_get_cases)

-- if an intact FF stands before a place in the list, but not in the characters of the gap, it is the last character of a frame
last_of_frame : (chars : List Character) (frames : List Found) (from stop k earlier : ℕ) → IsGap chars 0 frames from stop
    → follows_preamble (drop from chars) k ≡ false → from + k ≡ earlier + 1 → slice_get chars earlier ≡ Some preamble
    → (found : Found) × Contains frames found × (found.stop ≡ from + k)
last_of_frame chars frames from stop zero earlier gap not_one is heard = elim (begins_at_stop chars 0 frames from stop gap) [
  | inl same ↦ absurd (omega arith)
  | inr (found, has, stops) ↦ (found, has, omega (arith, stops))
]
last_of_frame chars frames from stop (suc m) earlier gap not_one is heard =
    let same : earlier ≡ from + m = omega arith in
    let there = heard_in_rest chars from m (rw same at heard) in
    absurd (cc (not_one, there))

-- the FF before a place of a gap is in no frame; if another FF stands before it, that is the check byte of a frame
pub has_one_preamble : (chars : List Character) (frames : List Found) (from stop place : ℕ) → AreFrames chars 0 frames
    → IsGap chars 0 frames from stop → from ≤ place → place < stop → follows_one_preamble (drop from chars) (place - from) ≡ true
    → HasOnePreamble chars frames place
has_one_preamble chars frames from stop place are gap after below one =
    let later : from < place = grind arith in
    let k : ℕ = place - from - 1 in
    let tests : (follows_preamble (drop from chars) (suc k) ≡ true) × (follows_preamble (drop from chars) k ≡ false) =
    grind (arith, nat_tests) in
    record {
      before = from + k;
      place_is = omega arith;
      heard = heard_before chars from k tests.0;
      outside = λ i d within. elim ((beside chars 0 frames are from stop gap).1 i d within) [
        | inl over ↦ inl (omega arith)
        | inr ahead ↦ inr (omega arith)
      ];
      alone = λ earlier is heard. last_of_frame chars frames from stop k earlier gap tests.1 is heard;
    }
