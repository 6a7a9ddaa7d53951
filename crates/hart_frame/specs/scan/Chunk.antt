-- What a scanner promises about a chunk of characters that it hears in one call (implementation choice).
use Rattle.std.specs.Prelude.{◌≡◌, ℕ, true, false, ◌⊎◌}
use Rattle.hart_frame.specs.heard.Frames.{IsUndecided}
use Rattle.hart_frame.specs.heard.Place.{StandsIn}
use Rattle.hart_frame.specs.scan.Scanner.{Scan}
use Rattle.hart_frame.specs.declared.heard.found.Found.{Found}

-- A scanner begins with a frame if what it holds begins with two preamble bytes and the frame's body.
abbrev pub BeginsWithFrame : Scan → Type 0
BeginsWithFrame scan = (found : Found) × StandsIn found scan.held 0 × (found.start ≡ 2)

-- A scanner stops after `count` characters of a chunk in two cases. In the first case it is drained, the chunk is used up, and what the
-- scanner holds decides no frame. In the second case it is not drained, and what it holds begins with a frame.
abbrev pub StopsAt : Scan → ℕ → ℕ → Type 0
StopsAt scan count all =
    ((scan.drained ≡ true) × IsUndecided scan.held × (count ≡ all)) ⊎ ((scan.drained ≡ false) × BeginsWithFrame scan)
