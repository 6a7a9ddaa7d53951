-- Why the bytes of a list are not decoded: the first thing that is wrong when they are read from the front (implementation choice).
use Rattle.std.specs.Prelude.{◌≡◌, ℕ, ◌%◌, ◌<◌, ◌≤◌, ◌⊎◌, List, length, take}
use Rattle.hart_frame.specs.declared.wire.fault.FrameFault.{FrameFault}
use Rattle.hart_frame.specs.declared.wire.fault.FrameFault.TheVariants.{TooShortReply, BadPreamble, BadDelimiter}
use Rattle.hart_frame.specs.declared.wire.fault.FrameFault.TheVariants.{Truncated, BadCheck, ShortReply}
use Rattle.hart_frame.specs.wire.Delimiter.{IsDelimiter}
use Rattle.hart_frame.specs.wire.Layout.{delimiter_in, byte_count_place, byte_count_in, body_length}
use Rattle.hart_frame.specs.wire.Parity.{HasEvenParity}

-- A list begins with an STX or ACK delimiter.
abbrev pub HasDelimiter : List ℕ → Type 0
HasDelimiter bytes = (0 < length bytes) × IsDelimiter (delimiter_in bytes)

-- A list begins with a delimiter and reaches its byte count.
abbrev pub HasByteCount : List ℕ → Type 0
HasByteCount bytes = HasDelimiter bytes × (byte_count_place bytes < length bytes)

-- A list reaches its byte count, which is at least 2 if the list begins an ACK.
abbrev pub HasGoodByteCount : List ℕ → Type 0
HasGoodByteCount bytes = HasByteCount bytes × ((delimiter_in bytes % 8 ≡ 2) ⊎ (2 ≤ byte_count_in bytes))

-- A list has a good byte count and reaches its check byte.
abbrev pub HasCheckByte : List ℕ → Type 0
HasCheckByte bytes = HasGoodByteCount bytes × (body_length bytes ≤ length bytes)

-- A list is truncated in three cases. It is empty, it begins with a delimiter and lacks the byte count, or it has a good byte count and
-- lacks the check byte.
abbrev pub IsTruncated : List ℕ → Type 0
IsTruncated bytes = (length bytes ≡ 0)
    ⊎ (HasDelimiter bytes × (length bytes ≤ byte_count_place bytes))
    ⊎ (HasGoodByteCount bytes × (length bytes < body_length bytes))

-- The fault of a list is the first thing that is wrong with it. `TooShortReply` and `BadPreamble` never apply to a list, because they are
-- faults in making and in sending a frame.
abbrev pub IsRefusedWith : List ℕ → FrameFault → Type 0
IsRefusedWith bytes BadDelimiter = (0 < length bytes) × (IsDelimiter (delimiter_in bytes) → ⊥)
IsRefusedWith bytes Truncated = IsTruncated bytes
IsRefusedWith bytes ShortReply = HasByteCount bytes × (delimiter_in bytes % 8 ≡ 6) × (byte_count_in bytes < 2)
IsRefusedWith bytes BadCheck = HasCheckByte bytes × (HasEvenParity (take (body_length bytes) bytes) → ⊥)
IsRefusedWith bytes TooShortReply = ⊥
IsRefusedWith bytes BadPreamble = ⊥
