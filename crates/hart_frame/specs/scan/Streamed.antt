-- The history of a scanner since it was new (implementation choice).
use Rattle.std.specs.Prelude.{◌≡◌, false, List, [], ◌∷◌, ◌++◌}
use Rattle.hart_frame.specs.heard.Character.{Character}
use Rattle.hart_frame.specs.scan.Scanner.{Scan, Ends, Gives, MovesPast, Waits, finishing, hearing, new_scan}
use Rattle.hart_frame.specs.declared.heard.found.Found.{Found}

-- The history of a scanner: the characters that were pushed to it since it was new, its state now, and the frames that it gave. Each step
-- is one call. In that call the scanner heard a character or a part of a chunk, was finished, gave a frame, or gave no frame for now.
pub data IsHistory : List Character → Scan → List Found → Type 0 where
  begin : IsHistory [] new_scan []
  push : (past : List Character) (scan : Scan) (given : List Found) (character : Character) → IsHistory past scan given
      → scan.finished ≡ false → IsHistory (past ++ character ∷ []) (hearing scan (character ∷ [])) given
  push_chars : (past : List Character) (old new : Scan) (given : List Found) (chunk : List Character) → IsHistory past old given
      → old.finished ≡ false → MovesPast (hearing old chunk) new [] → IsHistory (past ++ chunk) new given
  take_view : (past : List Character) (old new : Scan) (given : List Found) (found : Found) → IsHistory past old given
      → Gives old new found → IsHistory past new (given ++ found ∷ [])
  wait : (past : List Character) (old new : Scan) (given : List Found) → IsHistory past old given
      → Waits old new → IsHistory past new given
  finish : (past : List Character) (scan : Scan) (given : List Found) → IsHistory past scan given
      → IsHistory past (finishing scan) given

-- A scanner heard these characters, gave these frames, was finished, and ended.
pub record IsWholeHistory (past : List Character) (given : List Found) : Type 0 where
  pub last : Scan
  pub after : Scan
  pub history : IsHistory past last given
  pub ended : Ends last after
