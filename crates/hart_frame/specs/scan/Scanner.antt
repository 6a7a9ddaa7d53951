-- What a scanner promises: the frames of what is heard, each given as soon as it is decided (implementation choice).
use Rattle.std.specs.Prelude.{◌≡◌, ◌+◌, ◌≤◌, ◌⊎◌, ℕ, Bool, true, false, List, [], ◌∷◌, ◌++◌, Option, MatchOption, drop, length, map}
use Rattle.hart_frame.specs.heard.Character.{Character}
use Rattle.hart_frame.specs.heard.Frames.{HasNoFrame, IsUndecided, moved}
use Rattle.hart_frame.specs.scan.Next.{AreNext}
use Rattle.hart_frame.specs.wire.View.{found_of}
use Rattle.hart_frame.specs.declared.heard.found.Found.{Found}
use Rattle.hart_frame.specs.declared.scan.view.FoundView.{FoundView}

-- The state of a scanner. `held` are the characters that it holds. `first` is the place of the first held character, or, if no character is
-- held, of the next character to come. `finished` says that no more characters come. `drained` says that the scanner has no frame to give.
-- A drained scanner is new, or was asked for a frame and gave none, or heard a whole chunk that decided no frame. Since then it has heard
-- no character, and its `finish` was not called.
pub record Scan : Type 0 where
  pub first : ℕ
  pub held : List Character
  pub finished : Bool
  pub drained : Bool

-- A new scanner has heard nothing, and is drained.
abbrev pub new_scan : Scan
new_scan = record { first = 0; held = []; finished = false; drained = true }

-- A scanner that hears more characters holds them too. It is not drained, because it has not looked at them yet.
abbrev pub hearing : Scan → List Character → Scan
hearing scan chars = record scan { held = scan.held ++ chars; drained = false }

-- A scanner whose `finish` is called keeps what it holds. It is not drained, because it has to look at these characters again.
abbrev pub finishing : Scan → Scan
finishing scan = record scan { finished = true; drained = false }

-- A scanner moves past some frames if it drops the first `count` characters that it held, and these frames are the next frames up to
-- `count`. The places in `found` count from the first character held, and the places in `given` from the first character heard.
pub record MovesPast (old new : Scan) (given : List Found) : Type 0 where
  pub count : ℕ
  pub found : List Found
  pub next : AreNext old.held old.finished 0 found count
  pub given_are : given ≡ map (moved old.first) found
  pub first : new.first ≡ old.first + count
  pub held : new.held ≡ drop count old.held
  pub finished : new.finished ≡ old.finished

-- A scanner that gives a frame moves past this frame, and then holds what comes after the frame's body. The scanner is not drained before
-- or after that, because it may have more frames to give.
pub record Gives (old new : Scan) (found : Found) : Type 0 where
  pub moves : MovesPast old new (found ∷ [])
  pub stop : new.first ≡ found.stop
  pub undrained : (old.drained ≡ false) × (new.drained ≡ false)

-- A scanner that waits is not finished, moves past no frame, and is drained. It then holds at most 268 characters, which decide no frame.
pub record Waits (old new : Scan) : Type 0 where
  pub going : old.finished ≡ false
  pub moves : MovesPast old new []
  pub few : length new.held ≤ 268
  pub undecided : IsUndecided new.held
  pub drained : new.drained ≡ true

-- A finished scanner ends if no frame is left in what it holds. It is then new again.
pub record Ends (old new : Scan) : Type 0 where
  pub finished : old.finished ≡ true
  pub none : HasNoFrame old.held 0
  pub renewed : new ≡ new_scan

-- A scanner that gives no frame waits, or ends if it is finished.
abbrev pub GivesNothing : Scan → Scan → Type 0
GivesNothing old new = Waits old new ⊎ Ends old new

-- A call gives a view of the next frame, or no frame. It gives no frame if no frame is decided yet, or if the scanner is finished and no
-- frame is left.
abbrev pub GivesNextOrNothing : Scan → Scan → Option FoundView → Type 0
GivesNextOrNothing old new given = MatchOption given (GivesNothing old new) (λ view. Gives old new (found_of view))
