-- The next frames of what was heard, while more may still be heard (implementation choice).
use Rattle.std.specs.Prelude.{◌≡◌, ◌≤◌, ℕ, Bool, IsTrue, Option, List, [], ◌++◌, length, map}
use Rattle.std.specs.List.{All}
use Rattle.std.specs.Option.{option_to_list}
use Rattle.hart_frame.specs.heard.Character.{Character}
use Rattle.hart_frame.specs.heard.Frames.{AreFrames}
use Rattle.hart_frame.specs.wire.View.{found_of}
use Rattle.hart_frame.specs.declared.heard.found.Found.{Found}
use Rattle.hart_frame.specs.declared.scan.view.FoundView.{FoundView}

-- The frames from `from` on are `given`, followed by the frames from `to` on, whatever characters come later. If `ended` is true, no
-- characters come later.
abbrev pub LeadsOn : List Character → Bool → ℕ → List Found → ℕ → Type 0
LeadsOn chars ended from given to = (more : List Character) (later : List Found) → (IsTrue ended → more ≡ [])
    → AreFrames (chars ++ more) to later → AreFrames (chars ++ more) from (given ++ later)

-- `given` are the next frames of some characters, from `from` up to `to`. Whatever comes later, the frames from `from` on are `given`,
-- followed by the frames from `to` on. Each given frame stops at or before `to`.
pub record AreNext (chars : List Character) (ended : Bool) (from : ℕ) (given : List Found) (to : ℕ) : Type 0 where
  pub onward : from ≤ to
  pub within : to ≤ length chars
  pub leads : LeadsOn chars ended from given to
  pub stops : All (λ found. found.stop ≤ to) given

-- The list with just the frame that a view shows and where it stands, or the empty list if there is no view.
abbrev pub frames_of : Option FoundView → List Found
frames_of view = map found_of (option_to_list view)
