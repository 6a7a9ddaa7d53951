-- The gaps between messages, and the places in them where a message seems to start (implementation choice).
use Rattle.std.specs.Prelude.{◌≡◌, ◌≤◌, ◌<◌, ◌+◌, ◌⊎◌, [], ◌∷◌, ℕ, All, Contains, List, Some, length, slice_get}
use Rattle.hart_frame.specs.heard.Character.{Character}
use Rattle.hart_frame.specs.heard.Sighting.{Message, Missed, Seen}
use Rattle.hart_frame.specs.declared.heard.found.Found.{Found}

-- A gap between messages, from `place` to the end of some characters. It goes from `place` to the start of the first frame, from the stop
-- of a frame to the start of the next frame, or from the stop of the last frame to the end. Without a frame, the only gap goes from `place`
-- to the end.
abbrev pub IsGap : List Character → ℕ → List Found → (from stop : ℕ) → Type 0
IsGap chars place [] from stop = (from ≡ place) × (stop ≡ length chars)
IsGap chars place (found ∷ later) from stop = ((from ≡ place) × (stop ≡ found.start)) ⊎ IsGap chars found.stop later from stop

-- Only one intact preamble byte FF stands directly before a place. This FF was heard without faults, and belongs to the body of no frame.
-- If a second faultless FF stands before it, that second FF is the check byte of a frame.
pub record HasOnePreamble (chars : List Character) (frames : List Found) (place : ℕ) : Type 0 where
  pub before : ℕ
  pub place_is : place ≡ before + 1
  pub heard : slice_get chars before ≡ Some (record { byte = 255; faults = 0 })
  pub outside : All (λ found. (found.stop ≤ before) ⊎ (place < found.start)) frames
  pub alone : (earlier : ℕ) → before ≡ earlier + 1 → slice_get chars earlier ≡ Some (record { byte = 255; faults = 0 })
      → (found : Found) × Contains frames found × (found.stop ≡ before)

-- The place of a sighting.
abbrev pub seen_place : Seen → ℕ
seen_place (Message found) = found.start
seen_place (Missed place miss header) = place
