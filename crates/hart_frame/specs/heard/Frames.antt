-- The frames in a list of received characters (HCF_SPEC-081; implementation choice where possible frames overlap). Whether a delivery,
-- which is what is heard at once, has no frame, one frame or several (implementation choice).
use Rattle.std.specs.Prelude.{◌+◌, ◌≤◌, ◌<◌, ◌⊎◌, ℕ, List, [], ◌∷◌}
use Rattle.hart_frame.specs.heard.Character.{Character}
use Rattle.hart_frame.specs.heard.Place.{IsOpen, StandsIn}
use Rattle.hart_frame.specs.declared.heard.found.Found.{Found}
use Rattle.hart_frame.specs.declared.scan.first.LoneFrame.{LoneFrame}
use Rattle.hart_frame.specs.declared.scan.first.LoneFrame.TheVariants.{NoFrame, Alone, Several}

-- A list of characters has no frame from the place `from` on.
abbrev pub HasNoFrame : List Character → ℕ → Type 0
HasNoFrame chars from = (found : Found) → StandsIn found chars from → ⊥

-- The first frame of a list from the place `from` on is the frame with the least start.
pub record IsFirst (found : Found) (chars : List Character) (from : ℕ) : Type 0 where
  pub stands : StandsIn found chars from
  pub least : (other : Found) → StandsIn other chars from → found.start ≤ other.start

-- The list of all frames from a place on. It is empty if no frame stands from there on. Otherwise it is the first frame, followed by the
-- frames from the end of that frame's body on. All places are counted from the first character of the whole list.
pub data AreFrames (chars : List Character) : ℕ → List Found → Type 0 where
  none : (from : ℕ) → HasNoFrame chars from → AreFrames chars from []
  first : (from : ℕ) (found : Found) (later : List Found) → IsFirst found chars from
      → AreFrames chars found.stop later → AreFrames chars from (found ∷ later)

-- A list decides no frame in two cases. Either it has no frame, or a place before all its frames is open, so that a frame may still begin
-- there.
abbrev pub IsUndecided : List Character → Type 0
IsUndecided chars = HasNoFrame chars 0
    ⊎ ((place : ℕ) × IsOpen place chars × ((found : Found) → StandsIn found chars 0 → place < found.start))

-- A found frame, moved: the same frame, with its start and its stop increased by `places`.
abbrev pub moved : ℕ → Found → Found
moved places found = record { start = places + found.start; stop = places + found.stop; frame = found.frame }

-- Whether a delivery with this list of frames has no frame, exactly one frame, or several.
abbrev pub lone_of : List Found → LoneFrame
lone_of [] = NoFrame
lone_of (found ∷ []) = Alone found
lone_of (found ∷ other ∷ more) = Several

-- A delivery has no frame (`NoFrame`), exactly this frame (`Alone`), or several frames (`Several`).
abbrev pub IsLone : List Character → LoneFrame → Type 0
IsLone delivery NoFrame = AreFrames delivery 0 []
IsLone delivery (Alone found) = AreFrames delivery 0 (found ∷ [])
IsLone delivery Several =
    (found : Found) × (other : Found) × (more : List Found) × AreFrames delivery 0 (found ∷ other ∷ more)
