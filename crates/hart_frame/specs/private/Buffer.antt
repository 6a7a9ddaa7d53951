-- What a buffer of a scanner holds, and what it knows of the characters that it holds. How many characters of a chunk a scanner hears in
-- one call (implementation choice).
use Rattle.std.specs.Prelude.{◌≡◌, ◌≢◌, ◌<◌, ◌≤◌, ◌+◌, ◌^◌, ℕ, Bool, true, false, Option, None, Some, IfSome, ◌⊎◌, List, ◌++◌, drop, length}
use Rattle.std.specs.Prelude.{[], take}
use Rattle.std.specs.Option.{option_to_list}
use Rattle.hart_frame.specs.heard.Character.{faultless, Character}
use Rattle.hart_frame.specs.private.Candidate.{IsWhole, MayBegin}
use Rattle.hart_frame.specs.scan.Scanner.{Scan, MovesPast, hearing}
use Rattle.hart_frame.specs.declared.wire.layout.Layout.{Layout}
use Rattle.hart_frame.specs.declared.scan.buffer.Buffer.{Buffer}
use Rattle.hart_frame.specs.declared.scan.buffer.State.{State}
use Rattle.hart_frame.specs.declared.scan.buffer.State.TheVariants.{Busy, Drained, Stands}
use Rattle.hart_frame.specs.heard.Frames.{IsUndecided}
use Rattle.hart_frame.specs.scan.Chunk.{StopsAt}

-- The faultless bytes that a buffer holds: the bytes of its list from the place `from` on.
abbrev pub held_bytes : Buffer → List ℕ
held_bytes b = drop b.from b.bytes

-- Whether the state of a buffer is `Drained`.
abbrev pub is_drained : State → Bool
is_drained Drained = true
is_drained Busy = false
is_drained (Stands layout) = false

-- The state of a buffer that was searched. With a layout, it is `Stands`: a frame of this layout stands at the front. Without a layout, it
-- is `Drained`.
abbrev pub state_of : Option Layout → State
state_of None = Drained
state_of (Some layout) = Stands layout

-- The scanner that a buffer represents. It holds the buffer's bytes as faultless characters, and after them at most one character with
-- faults.
abbrev pub scan_of : Buffer → Scan
scan_of b = record {
  first = b.first;
  held = faultless (held_bytes b) ++ option_to_list b.damaged;
  finished = b.finished;
  drained = is_drained b.state;
}

-- A buffer keeps its limits. Its list has at most 538 bytes, and the held bytes begin within it. The character after them, if there is one,
-- has faults. The held bytes and this character are at most 269 characters, and their places fit in 64 bits.
pub record IsStored (b : Buffer) : Type 0 where
  pub within : b.from ≤ length b.bytes
  pub room : length b.bytes ≤ 538
  pub damage : IfSome b.damaged (λ character. character.faults ≢ 0)
  pub few : length (held_bytes b) + length (option_to_list b.damaged) ≤ 269
  pub places : b.first + (length (held_bytes b) + length (option_to_list b.damaged)) < 2 ^ 64

-- A buffer waits if it is unfinished, holds no character with faults, and holds at most 268 bytes, which may begin a frame.
pub record IsWaiting (b : Buffer) : Type 0 where
  pub clear : b.damaged ≡ None
  pub going : b.finished ≡ false
  pub few : length (held_bytes b) ≤ 268
  pub may : MayBegin (held_bytes b)

-- What a state promises. `Drained`: the buffer waits. `Busy`: nothing. `Stands`: the held bytes begin with a frame of this layout.
abbrev pub IsMeant : Buffer → State → Type 0
IsMeant b Drained = IsWaiting b
IsMeant b Busy = Unit {0}
IsMeant b (Stands layout) = IsWhole layout (held_bytes b)

-- A buffer is sound if it keeps its limits and the promise of its state.
pub record IsSound (b : Buffer) : Type 0 where
  pub stored : IsStored b
  pub meant : IsMeant b b.state

-- No byte can follow what is held: the scanner is finished, or the last character held has faults.
abbrev pub IsEnded : Buffer → Type 0
IsEnded b = (b.finished ≡ true) ⊎ (b.damaged ≢ None)

-- A scanner hears the first `count` characters of a chunk. These are the characters up to the first that decides a frame, or the whole
-- chunk if no character decides a frame. It hears at least one character unless the chunk is empty.
pub record Hears (old new : Scan) (chunk : List Character) (count : ℕ) : Type 0 where
  pub within : count ≤ length chunk
  pub some : 0 < length chunk → 0 < count
  pub moves : MovesPast (hearing old (take count chunk)) new []
  pub before : (fewer : ℕ) → fewer < count → IsUndecided (old.held ++ take fewer chunk)
  pub stops : StopsAt new count (length chunk)

-- A scanner hears the first `count` characters of a chunk, and no character after the first that decides a frame. What it then holds begins
-- with a frame, or decides no frame.
pub record HearsPart (old new : Scan) (chunk : List Character) (count : ℕ) : Type 0 where
  pub within : count ≤ length chunk
  pub some : 0 < count
  pub moves : MovesPast (hearing old (take count chunk)) new []
  pub before : (fewer : ℕ) → fewer < count → IsUndecided (old.held ++ take fewer chunk)
  pub stops : StopsAt new count count
