-- What `hart dump` writes for its input (implementation choice).
use Rattle.std.specs.Prelude.{◌≡◌, ℕ, List, ◌++◌, length, Option}
use Rattle.hart_frame.specs.heard.Character.{Character}
use Rattle.hart_frame.specs.heard.Frames.{AreFrames, IsUndecided}
use Rattle.hart_frame.specs.declared.heard.found.Found.{Found}
use Rattle.hart_cli.specs.declared.fault.CliFault.{CliFault}
use Rattle.hart_cli.specs.dump.Text.{dump_text}
use Rattle.hart_cli.specs.ImageWord.{OutcomeRelation}
use Rattle.hart_cli.specs.input.Decoding.{item_decoding}
use Rattle.hart_cli.specs.input.Input.{Ending}
use Rattle.hart_station.specs.Station.{input_limit}
use Rattle.hart_cli.specs.input.LiveInput.{HasText, LiveOutcome}

-- The lines of `hart dump` for some characters: one line for each frame in them.
pub record AreFrameLines (chars : List Character) (lines : List ℕ) : Type 0 where
  pub frames : List Found
  pub are_frames : AreFrames chars 0 frames
  pub text : lines ≡ dump_text frames

-- What `hart dump` writes for an input with this first fault, if any: the lines of the frames before the fault.
abbrev pub IsDump : List ℕ → Ending → Option CliFault → List ℕ → Type 0
IsDump = HasText item_decoding AreFrameLines

-- The decided frames of some characters. Whatever is heard next, these frames come first. In the characters after them, no frame is decided
-- yet.
pub record AreDecided (chars : List Character) (frames : List Found) : Type 0 where
  pub passed : List Character
  pub rest : List Character
  pub split : chars ≡ passed ++ rest
  pub first : (more : List Character) (later : List Found) → AreFrames (chars ++ more) (length passed) later
      → AreFrames (chars ++ more) 0 (frames ++ later)
  pub undecided : IsUndecided rest

-- The decided lines of some characters are the lines of the decided frames.
pub record AreDecidedLines (chars : List Character) (lines : List ℕ) : Type 0 where
  pub frames : List Found
  pub decided : AreDecided chars frames
  pub text : lines ≡ dump_text frames

-- A call of `dump` reads an input of at most 1,048,576 bytes, and writes the line of each frame in the input. If a write fails, all lines
-- are written that were decided before the last 16,384 bytes were read.
abbrev pub DumpOutcome : OutcomeRelation
DumpOutcome = LiveOutcome item_decoding input_limit AreFrameLines AreDecidedLines
