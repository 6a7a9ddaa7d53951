-- The characters that `hart dump` holds, and the lines that it keeps. Only private calls use these definitions (implementation choice).
use Rattle.std.specs.Prelude.{◌≡◌, ◌+◌, ◌*◌, ◌<◌, ◌≤◌, ◌^◌, ℕ, Bool, List, [], ◌++◌, false, IsTrue, drop, length, map}
use Rattle.std.specs.Prelude.{Option, Result, Ok, Err}
use Rattle.hart_frame.specs.heard.Character.{Character, faultless}
use Rattle.hart_frame.specs.heard.Frames.{AreFrames, IsUndecided, moved}
use Rattle.hart_frame.specs.scan.Next.{AreNext}
use Rattle.hart_frame.specs.declared.heard.found.Found.{Found}
use Rattle.hart_text.specs.Items.{ReadsUpTo}
use Rattle.hart_cli.specs.declared.calls.dump.frame_lines.FrameLines.{FrameLines}
use Rattle.hart_cli.specs.declared.fault.CliFault.{CliFault}
use Rattle.hart_cli.specs.declared.stream.Failed.{Failed}
use Rattle.hart_cli.specs.dump.Dump.{AreDecidedLines, AreFrameLines}
use Rattle.hart_cli.specs.dump.Text.{dump_text}
use Rattle.hart_cli.specs.input.Ahead.{DecodesAll}
use Rattle.hart_cli.specs.input.Decoding.{item_decoding}
use Rattle.hart_station.specs.Station.{input_limit}
use Rattle.hart_cli.specs.input.LiveInput.{IsDecidedText, StopsWriting, WroteInTime}
use Rattle.hart_cli.specs.stream.Stream.{Stream, WritesAll}

-- Held bytes are waiting if they decide no frame yet, and if there are at most 268 of them.
pub record IsWaiting (held : List ℕ) : Type 0 where
  pub undecided : IsUndecided (faultless held)
  pub few : length held ≤ 268

-- The buffer of lines has room for 12 more bytes for each held character and for each of `count` further characters.
abbrev pub HasRoomFor : ℕ → FrameLines → Type 0
HasRoomFor count frames = length frames.lines + 12 * (length frames.held + count) ≤ 101550

-- The lines of frames whose places are counted from `first` on.
abbrev pub lines_from : ℕ → List Found → List ℕ
lines_from first frames = dump_text (map (moved first) frames)

-- The lines of the decided frames in held bytes were added to the text `before`. The first `used` bytes can be dropped, and the added lines
-- have at most 12 bytes for each of them. At most 268 bytes are left, and no frame in them is decided. If `ended` is true, no bytes are
-- left.
pub record AddsDecided (first : ℕ) (held : List ℕ) (ended : Bool) (used : ℕ) (before after : List ℕ) : Type 0 where
  pub given : List Found
  pub next : AreNext (faultless held) ended 0 given used
  pub adds : after ≡ before ++ lines_from first given
  pub room : length after ≤ length before + 12 * used
  pub within : used ≤ length held
  pub few : length held ≤ used + 268
  pub all : IsTrue ended → used ≡ length held
  pub undecided : ended ≡ false → IsUndecided (faultless (drop used held))

-- Lines were added to the text `before`: one for each frame in the held bytes.
pub record AddsRest (first : ℕ) (held before after : List ℕ) : Type 0 where
  pub given : List Found
  pub are : AreFrames (faultless held) 0 given
  pub adds : after ≡ before ++ lines_from first given

-- New characters were heard after the held ones. Of held and new characters together, the first `used` were dropped. Lines were added for
-- the frames in the dropped characters, and the other characters are held. The added lines have at most 12 bytes for each dropped
-- character.
pub record Hears (old new : FrameLines) (chars : List Character) : Type 0 where
  pub given : List Found
  pub used : ℕ
  pub next : AreNext (faultless old.held ++ chars) false 0 given used
  pub first : new.first ≡ old.first + used
  pub held : faultless new.held ≡ drop used (faultless old.held ++ chars)
  pub adds : new.lines ≡ old.lines ++ lines_from old.first given
  pub room : length new.lines + 12 * length new.held ≤ length old.lines + 12 * (length old.held + length chars)

-- The characters of a text were heard, up to its last part `rest`.
pub record HearsText (old new : FrameLines) (text rest : List ℕ) : Type 0 where
  pub chars : List Character
  pub reads : ReadsUpTo text chars rest
  pub hears : Hears old new chars

-- `text` has the lines of the frames that end at or before the place `first` of some characters. The characters from `first` on are held.
pub record HasLines (chars : List Character) (first : ℕ) (held text : List ℕ) : Type 0 where
  pub given : List Found
  pub next : AreNext chars false 0 given first
  pub left : faultless held ≡ drop first chars
  pub lines : text ≡ dump_text given

-- An input was read and heard, to its end or up to its first fault. The lines of all frames that its characters decide were written. No
-- line was late (see `WroteInTime`).
pub record HearsAll (reader reader_after writer writer_after : Stream) (frames : FrameLines) (fault : Option CliFault) : Type 0 where
  pub input : List ℕ
  pub chars : List Character
  pub text : List ℕ
  pub decodes : DecodesAll item_decoding input_limit reader reader_after fault input chars
  pub has : HasLines chars frames.first frames.held text
  pub places : frames.first + length frames.held < 2 ^ 64
  pub waiting : IsWaiting frames.held
  pub none_kept : frames.lines ≡ []
  pub wrote : WritesAll writer writer_after text
  pub in_time : WroteInTime (IsDecidedText item_decoding AreDecidedLines) input writer writer_after

-- An input was heard up to its first fault or its end, or until a write failed.
abbrev pub HearsInput : Stream → Stream → Stream → Stream → FrameLines → Result (Option CliFault) Failed → Type 0
HearsInput reader reader_after writer writer_after frames (Ok fault) =
    HearsAll reader reader_after writer writer_after frames fault
HearsInput reader reader_after writer writer_after frames (Err failed) =
    StopsWriting item_decoding input_limit AreFrameLines AreDecidedLines reader reader_after writer writer_after
