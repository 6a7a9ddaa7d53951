-- How bytes begin as a body (HCF_SPEC-081).
use Rattle.std.specs.Prelude.{ℕ, List, map, ◌≡◌, ◌≢◌, ◌+◌, ◌-◌, ◌<◌, ◌≤◌, None, Some, length, slice_index, take}
use Rattle.hart_frame.specs.heard.Character.{Character}
use Rattle.std.specs.List.{All}
use Rattle.hart_frame.specs.private.Layout.{Describes, layout_length}
use Rattle.hart_frame.specs.wire.Layout.{body_length, byte_count_in, byte_count_place, delimiter_in}
use Rattle.hart_frame.specs.wire.Parity.{HasEvenParity, IsCheckByte}
use Rattle.hart_frame.specs.wire.Refusal.{HasByteCount, HasCheckByte, HasGoodByteCount, IsRefusedWith, IsTruncated}
use Rattle.hart_frame.specs.declared.wire.fault.FrameFault.{FrameFault}
use Rattle.hart_frame.specs.declared.wire.fault.FrameFault.TheVariants as fault
use Rattle.hart_frame.specs.declared.wire.layout.Layout.{Layout}
use Rattle.hart_frame.specs.declared.wire.prefix.Prefix.{Prefix}
use Rattle.hart_frame.specs.declared.wire.prefix.Prefix.TheVariants as prefix
use Rattle.hart_frame.specs.declared.wire.prefix.Wrong.{Wrong}
use Rattle.hart_frame.specs.declared.wire.prefix.Wrong.TheVariants.{BadCheck, BadDelimiter, ShortReply}

-- The bytes of characters, whatever their faults.
abbrev pub bytes_of : List Character → List ℕ
bytes_of chars = map (λ character. character.byte) chars

-- Bytes are a whole body of a layout if the layout describes them and has their length. Nothing may be wrong before the check byte, the
-- exclusive or of all bytes must be 0, and each byte must be below 256.
pub record IsWholeBody (layout : Layout) (bytes : List ℕ) : Type 0 where
  pub described : Describes layout bytes
  pub checked : HasCheckByte bytes
  pub exact : layout_length layout ≡ length bytes
  pub even : HasEvenParity bytes
  pub fits : All (λ byte. byte < 256) bytes

-- The check byte, the last of the first `len` bytes, is `byte`, but the byte that would fit is `fits`.
pub record HasBadCheck (bytes : List ℕ) (len byte fits : ℕ) : Type 0 where
  pub checked : HasCheckByte bytes
  pub whole : len ≡ body_length bytes
  pub stands : slice_index bytes (len - 1) ≡ byte
  pub fitting : IsCheckByte (take (len - 1) bytes) fits
  pub differs : byte ≢ fits
  pub are_bytes : All (λ byte. byte < 256) (take len bytes)

-- What is wrong with bytes that never become a body.
abbrev pub IsWrong : List ℕ → Wrong → Type 0
IsWrong bytes (BadDelimiter byte) = IsRefusedWith bytes fault.BadDelimiter × (delimiter_in bytes ≡ byte)
IsWrong bytes (ShortReply len byte_count) =
    IsRefusedWith bytes fault.ShortReply × (len ≡ byte_count_place bytes + 1) × (byte_count_in bytes ≡ byte_count)
IsWrong bytes (BadCheck len byte fits) = HasBadCheck bytes len byte fits

-- How many bytes were needed to decide what is wrong.
abbrev pub shown_by : Wrong → ℕ
shown_by (BadDelimiter byte) = 1
shown_by (ShortReply len byte_count) = len
shown_by (BadCheck len byte fits) = len

-- The fault that corresponds to what is wrong with the bytes.
abbrev pub fault_in : Wrong → FrameFault
fault_in (BadDelimiter byte) = fault.BadDelimiter
fault_in (ShortReply len byte_count) = fault.ShortReply
fault_in (BadCheck len byte fits) = fault.BadCheck

-- How bytes begin. `Whole`: they begin with a whole body. `Cut`: they end too early for a body. Either they end before the byte count, or
-- they lack the last `missing` bytes of the body. `Wrong`: something is wrong with them.
abbrev pub IsPrefix : List ℕ → Prefix → Type 0
IsPrefix bytes (prefix.Whole layout) =
    (layout_length layout ≤ length bytes) × IsWholeBody layout (take (layout_length layout) bytes)
IsPrefix bytes (prefix.Cut None) = IsTruncated bytes × (HasByteCount bytes → ⊥)
IsPrefix bytes (prefix.Cut (Some missing)) =
    HasGoodByteCount bytes × (0 < missing) × (length bytes + missing ≡ body_length bytes)
IsPrefix bytes (prefix.Wrong wrong) = IsWrong bytes wrong
