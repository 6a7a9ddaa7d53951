-- Why no frame stands where a message seems to start: what stands in the way of a body there (HCF_SPEC-081; implementation choice).
use Rattle.std.specs.Prelude.{◌≡◌, ◌≢◌, ◌⊎◌, ◌<◌, ◌+◌, ◌-◌, ◌%◌, ℕ, List, [], ◌∷◌, ◌++◌, Option, None, Some, drop, length, slice_get}
use Rattle.std.specs.Prelude.{take}
use Rattle.hart_frame.specs.heard.Character.{Character, faultless, faultless_bytes}
use Rattle.hart_frame.specs.wire.Body.{IsBody}
use Rattle.hart_frame.specs.wire.FrameParts.{FrameParts}
use Rattle.hart_frame.specs.wire.Layout.{body_length, byte_count_in, delimiter_in}
use Rattle.hart_frame.specs.wire.Parity.{IsCheckByte}
use Rattle.hart_frame.specs.wire.Delimiter.{IsBurstDelimiter, IsDelimiter}
use Rattle.hart_frame.specs.wire.Refusal.{HasByteCount, HasCheckByte, HasGoodByteCount, IsTruncated}
use Rattle.hart_frame.specs.heard.Place.{IsStart}
use Rattle.hart_frame.specs.declared.wire.fault.FrameFault.{FrameFault}
use Rattle.hart_frame.specs.declared.wire.fault.FrameFault.TheVariants.{Truncated}
use Rattle.hart_frame.specs.declared.heard.miss.Miss.{Miss}
use Rattle.hart_frame.specs.declared.heard.miss.Miss.TheVariants.{Faulty, Burst, BadDelimiter, EndsBeforeByteCount, ShortReply, Missing}
use Rattle.hart_frame.specs.declared.heard.miss.Miss.TheVariants.{BadCheck, OnePreamble}

-- The bytes that were heard from a place on, up to the first character with fault bits.
abbrev pub bytes_from : List Character → ℕ → List ℕ
bytes_from chars place = faultless_bytes (drop place chars)

-- The character at a place has the fault bits `faults`, which are not 0.
abbrev pub HasFaultsAt : List Character → ℕ → ℕ → Type 0
HasFaultsAt chars place faults = (faults ≢ 0) × (byte : ℕ) × (slice_get chars place ≡ Some (record { byte = byte; faults = faults }))

-- All characters from a place to the end of what was heard are faultless.
abbrev pub ComeToTheEnd : List Character → ℕ → Type 0
ComeToTheEnd chars place = place + length (bytes_from chars place) ≡ length chars

-- What stands in the way of a body at a place where a body may start:
-- `Faulty`: the bytes end too early for a body, because a character with fault bits follows.
-- `Burst`: the bytes begin with the delimiter of a burst message.
-- `BadDelimiter`: the bytes begin with another byte that is no STX or ACK delimiter.
-- `EndsBeforeByteCount`: what was heard ends before the byte count.
-- `ShortReply`: a reply has a byte count below 2.
-- `Missing`: what was heard lacks the last `count` characters of the body.
-- `BadCheck`: the check byte does not fit the bytes before it.
-- `OnePreamble` is never in the way at such a place, because two FF stand before the place.
abbrev pub IsInTheWay : List Character → ℕ → Miss → Type 0
IsInTheWay chars start (Faulty place faults) =
    IsTruncated (bytes_from chars start) × (place ≡ start + length (bytes_from chars start)) × HasFaultsAt chars place faults
IsInTheWay chars start Burst = (0 < length (bytes_from chars start)) × IsBurstDelimiter (delimiter_in (bytes_from chars start))
IsInTheWay chars start (BadDelimiter byte) =
    (0 < length (bytes_from chars start)) × (delimiter_in (bytes_from chars start) ≡ byte)
    × (IsDelimiter byte → ⊥) × (IsBurstDelimiter byte → ⊥)
IsInTheWay chars start EndsBeforeByteCount =
    IsTruncated (bytes_from chars start) × (HasByteCount (bytes_from chars start) → ⊥) × ComeToTheEnd chars start
IsInTheWay chars start (ShortReply byte_count) =
    HasByteCount (bytes_from chars start) × (delimiter_in (bytes_from chars start) % 8 ≡ 6)
    × (byte_count_in (bytes_from chars start) ≡ byte_count) × (byte_count < 2)
IsInTheWay chars start (Missing count) =
    HasGoodByteCount (bytes_from chars start) × (0 < count)
    × (length (bytes_from chars start) + count ≡ body_length (bytes_from chars start)) × ComeToTheEnd chars start
IsInTheWay chars start (BadCheck place byte fits) =
    HasCheckByte (bytes_from chars start) × (place + 1 ≡ start + body_length (bytes_from chars start))
    × (slice_get chars place ≡ Some (record { byte = byte; faults = 0 }))
    × IsCheckByte (take (body_length (bytes_from chars start) - 1) (bytes_from chars start)) fits × (byte ≢ fits)
IsInTheWay chars start OnePreamble = ⊥

-- A whole body, in faultless characters, stands in a list from a place on.
pub record HasBodyAt (chars : List Character) (place : ℕ) : Type 0 where
  pub frame : FrameParts
  pub body : List ℕ
  pub rest : List Character
  pub is_body : IsBody frame body
  pub parts : drop place chars ≡ faultless body ++ rest

-- Exactly one faultless preamble byte FF stands right before a place: the character before that FF, if there is one, is no faultless FF.
pub record FollowsOnePreamble (chars : List Character) (place : ℕ) : Type 0 where
  pub prefix : List Character
  pub rest : List Character
  pub split : chars ≡ prefix ++ faultless (255 ∷ []) ++ rest
  pub place_is : place ≡ length prefix + 1
  pub alone : (earlier : List Character) → prefix ≢ earlier ++ faultless (255 ∷ [])

-- A miss is the reason why no frame stands at a place. Where a body may start, the miss is what stands in the way of a body. Where a whole
-- body stands right after a single faultless FF, the miss is `OnePreamble`. Any other place has no miss.
abbrev pub IsMiss : List Character → ℕ → Miss → Type 0
IsMiss chars start miss =
    (IsStart start chars × IsInTheWay chars start miss)
    ⊎ ((miss ≡ OnePreamble) × FollowsOnePreamble chars start × HasBodyAt chars start)

-- The fault that a miss corresponds to. A character with fault bits truncates the bytes before it, as the end of the list does.
-- `OnePreamble` corresponds to no fault, because the bytes after the single FF are a whole body.
abbrev pub fault_of : Miss → Option FrameFault
fault_of (Faulty place faults) = Some Truncated
fault_of Burst = Some FrameFault.BadDelimiter
fault_of (BadDelimiter byte) = Some FrameFault.BadDelimiter
fault_of EndsBeforeByteCount = Some Truncated
fault_of (ShortReply byte_count) = Some FrameFault.ShortReply
fault_of (Missing count) = Some Truncated
fault_of (BadCheck place byte fits) = Some FrameFault.BadCheck
fault_of OnePreamble = None
