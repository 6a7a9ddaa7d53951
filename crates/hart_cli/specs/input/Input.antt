-- What is read from an input, and how the input ends (implementation choice).
use Rattle.std.specs.Prelude.{◌≡◌, ◌≢◌, ◌⊎◌, ℕ, ◌+◌, ◌-◌, ◌^◌, ◌≤◌, List, [], ◌∷◌, ◌++◌, length, Option, None, Some}
use Rattle.std.specs.Io.KnownBytes.{Consumes, IsAtEnd}
use Rattle.hart_line.specs.declared.memory.NoRoom.{NoRoom}
use Rattle.hart_station.specs.Station.{input_limit}
use Rattle.hart_cli.specs.stream.Stream.{Stream, count_after_failure}
use Rattle.hart_cli.specs.declared.fault.CliFault.{CliFault}
use Rattle.hart_cli.specs.declared.fault.CliFault.TheVariants as faults
use Rattle.hart_cli.specs.declared.input.InputEnd.{InputEnd}
use Rattle.hart_cli.specs.declared.input.InputEnd.TheVariants.{Ended, ReadFailed, TooLong}

-- The greatest number of bytes of an input of `explain`, `serve` and `master`: 2^64 - 1.
abbrev pub stream_limit : ℕ
stream_limit = 2 ^ 64 - 1

-- The greatest number of bytes that one read returns.
abbrev pub most_at_once : ℕ
most_at_once = 16384

-- Exactly these bytes were taken from the reader, and no read failed.
abbrev pub ReadsWell : Stream → Stream → List ℕ → Type 0
ReadsWell old new bytes = Consumes old.bytes new.bytes bytes × (new.failures ≡ old.failures)

-- Exactly these bytes were taken from the reader, and then a read failed.
abbrev pub ReadFails : Stream → Stream → List ℕ → Type 0
ReadFails old new bytes = Consumes old.bytes new.bytes bytes × (new.failures ≡ count_after_failure old.failures)

-- These bytes and one more byte were taken from the reader, and no read failed.
pub record ReadsBeyond (old new : Stream) (bytes : List ℕ) : Type 0 where
  pub beyond : ℕ
  pub read : ReadsWell old new (bytes ++ beyond ∷ [])

-- The bytes of `text` and one more byte were taken from the reader. The length of `text` is the limit.
abbrev pub ReadsPast : ℕ → Stream → Stream → List ℕ → Type 0
ReadsPast limit old new text = ReadsBeyond old new text × (length text ≡ limit)

-- This text was read from an input with a limit. After the text, the input ended, a read failed, or a byte past the limit was read.
abbrev pub ReadsWithin : ℕ → Stream → Stream → List ℕ → InputEnd → Type 0
ReadsWithin limit old new text Ended = ReadsWell old new text × IsAtEnd new.bytes × (length text ≤ limit)
ReadsWithin limit old new text ReadFailed = ReadFails old new text × (length text ≤ limit)
ReadsWithin limit old new text TooLong = ReadsPast limit old new text

-- This text was read from an input. After the text, the input ended, a read failed, or one byte more than 1,048,576 was read.
abbrev pub Reads : Stream → Stream → List ℕ → InputEnd → Type 0
Reads old new text end = ReadsWithin input_limit old new text end

-- An input was read to its end, or was left before its end. If it was left, definitions say only what is true whatever bytes follow.
pub data Ending : Type 0 where
  Left : Ending
  CameTo : (end : InputEnd) → Ending

-- This text was read from an input with a limit. Then the input ended, or the call left it. If the call left the input, more of it may be
-- unread, and one byte past the limit may have been read after the text.
abbrev pub ReadsToWithin : ℕ → Stream → Stream → List ℕ → Ending → Type 0
ReadsToWithin limit old new text Left = (ReadsWell old new text × (length text ≤ limit)) ⊎ ReadsPast limit old new text
ReadsToWithin limit old new text (CameTo end) = ReadsWithin limit old new text end

-- How many bytes of memory an input needs: one for each byte that it may have, and one for the space that completes its last item.
abbrev pub input_room : ℕ
input_room = input_limit + 1

-- Memory for an input was refused, and nothing was read.
abbrev pub LacksInputRoom : Stream → Stream → NoRoom → Type 0
LacksInputRoom old new none = (none.items ≡ input_room) × (new ≡ old)

-- The faults of reading a whole input: a read failed, the input is longer than the limit, or memory for the input was refused.
abbrev pub IsReadingFault : Stream → Stream → CliFault → Type 0
IsReadingFault old new faults.Read = (text : List ℕ) × Reads old new text ReadFailed
IsReadingFault old new faults.TooLong = (text : List ℕ) × Reads old new text TooLong
IsReadingFault old new (faults.Memory none) = LacksInputRoom old new none
IsReadingFault old new _ = ⊥

-- Only private calls use the definitions from here on: what one read of an input returns.

-- A failed read and an exceeded limit are faults of an input, whatever the input holds.
abbrev pub fault_of_end : InputEnd → Option CliFault
fault_of_end Ended = None
fault_of_end ReadFailed = Some faults.Read
fault_of_end TooLong = Some faults.TooLong

-- The ending of an input. For `Some end`, the input came to this end. For `None`, the call left the input.
abbrev pub ending_of : Option InputEnd → Ending
ending_of None = Left
ending_of (Some end) = CameTo end

-- One read returned these bytes. Before the read, `room` bytes were left within the limit. After the read, the input is at its end, or it
-- may go on.
abbrev pub ReadsPortion : Stream → Stream → List ℕ → ℕ → Option InputEnd → Type 0
ReadsPortion old new bytes room None = ReadsWell old new bytes × (bytes ≢ []) × (length bytes ≤ room)
ReadsPortion old new bytes room (Some Ended) = ReadsWell old new bytes × IsAtEnd new.bytes × (bytes ≡ [])
ReadsPortion old new bytes room (Some ReadFailed) = ReadFails old new bytes × (bytes ≡ [])
ReadsPortion old new bytes room (Some TooLong) = ReadsBeyond old new bytes × (length bytes ≡ room)
