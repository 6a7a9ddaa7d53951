-- The body of a message: a frame as bytes, from the delimiter to the check byte (HCF_SPEC-081).
use Rattle.std.specs.Prelude.{◌≡◌, ℕ, ◌<◌, ◌≤◌, List, [], ◌∷◌, ◌++◌, length, take}
use Rattle.std.specs.List.{All}
use Rattle.hart_values.specs.address.AddressBytes.{IsAddressBytes}
use Rattle.hart_frame.specs.wire.FrameParts.{FrameParts, IsLongEnough}
use Rattle.hart_frame.specs.wire.Parity.{HasEvenParity}
use Rattle.hart_frame.specs.wire.Delimiter.{delimiter_of}

-- The part of a body before the check byte: the delimiter, the address bytes, at most 3 expansion bytes, the command, the byte
-- count and the payload, one after another. An ACK's payload has at least its two status bytes.
pub record IsCheckedPart (frame : FrameParts) (bytes : List ℕ) : Type 0 where
  pub address : List ℕ
  pub address_bytes : IsAddressBytes frame.master frame.burst frame.address address
  pub parts : bytes ≡ delimiter_of frame ∷ address ++ frame.expansion
      ++ frame.command ∷ length frame.payload ∷ frame.payload
  pub expansion_fits : length frame.expansion ≤ 3
  pub payload_fits : IsLongEnough frame.kind frame.payload

-- A body of a frame is its checked part and a check byte. All bytes of the body are below 256, and each of the eight bits is set in an even
-- number of these bytes.
pub record IsBody (frame : FrameParts) (bytes : List ℕ) : Type 0 where
  pub checked : List ℕ
  pub check : ℕ
  pub checked_part : IsCheckedPart frame checked
  pub parts : bytes ≡ checked ++ check ∷ []
  pub bytes_fit : All (λ byte. byte < 256) bytes
  pub parity : HasEvenParity bytes

-- The first `count` bytes of a list are a body of the frame.
pub record BeginsWithBody (bytes : List ℕ) (frame : FrameParts) (count : ℕ) : Type 0 where
  pub within : count ≤ length bytes
  pub body : IsBody frame (take count bytes)

-- A list does not begin with a body.
abbrev pub HasNoBody : List ℕ → Type 0
HasNoBody bytes = (frame : FrameParts) (count : ℕ) → BeginsWithBody bytes frame count → ⊥

-- A list can become a body if some bytes, `rest`, can follow it so that the whole begins with a body.
pub record CanBecomeBody (bytes : List ℕ) : Type 0 where
  pub rest : List ℕ
  pub frame : FrameParts
  pub count : ℕ
  pub begins : BeginsWithBody (bytes ++ rest) frame count
