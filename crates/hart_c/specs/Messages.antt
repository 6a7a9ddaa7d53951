-- What the calls that read and write a frame promise to a caller in C (implementation choice).
use Rattle.std.specs.Prelude.{◌≡◌, ◌<◌, ◌≤◌, ◌^◌, ◌++◌, ℕ, List, Bool, true, false, [], ◌∷◌, drop, length}
use Rattle.hart_frame.specs.wire.FrameParts.{FrameParts, IsLongEnough}
use Rattle.hart_frame.specs.declared.wire.fault.FrameFault.TheVariants.{BadPreamble, TooShortReply}
use Rattle.hart_frame.specs.{wire.Body.BeginsWithBody, wire.Message.IsMessage, wire.Message.IsPreambleCount, wire.Refusal.IsRefusedWith}
use Rattle.hart_c.specs.Faults.{AllPass, Check, Outcome, needs, needs_or, outcome_of, refused_if}
use Rattle.hart_c.specs.declared.fault.Fault.TheVariants.{BadAddress, Frame, LongExpansion, NoRoom}
use Rattle.hart_c.specs.{Numbers.IsTidy, Numbers.frame_in, declared.fault.HartOutcome.HartOutcome, declared.frame.HartFrame.HartFrame}

-- Either the frame at the front of the bytes is written to the caller's `HartFrame`, at place 0, and the call returns the length of its
-- body. Or the call returns a fault, and the `HartFrame` is unchanged.
abbrev pub DecodeOutcome : List ℕ → HartFrame → HartFrame → HartOutcome → Type 0
DecodeOutcome bytes before after =
    Outcome (needs_or ((frame : FrameParts) × (len : ℕ) × BeginsWithBody bytes frame len) (IsRefusedWith bytes) Frame ∷ [])
    (λ len. BeginsWithBody bytes (frame_in after) len × (after.start ≡ 0) × (after.stop ≡ len) × IsTidy after) (after ≡ before) outcome_of

-- The address in a `HartFrame` is in range. A unique address has a type of at most 14 bits and an id of at most 24 bits. A polling address
-- has at most 6 bits.
abbrev pub IsInRange : Bool → HartFrame → Type 0
IsInRange true frame = (frame.expanded_type < 2 ^ 14) × (frame.device_id < 2 ^ 24)
IsInRange false frame = frame.polling_address < 64

-- The checks of a `HartFrame`, in this order: the address is in range; there are at most three expansion bytes; a reply has its two status
-- bytes.
abbrev pub frame_checks : HartFrame → List Check
frame_checks frame =
    needs (IsInRange frame.is_unique frame) BadAddress
    ∷ needs (frame.expansion_len ≤ 3) LongExpansion
    ∷ needs (IsLongEnough (frame_in frame).kind (frame_in frame).payload) (Frame TooShortReply) ∷ []

-- The fields of a `HartFrame` make a frame if they pass all of `frame_checks`.
abbrev pub IsFrame : HartFrame → Type 0
IsFrame frame = AllPass (frame_checks frame)

-- There are more than `room` bytes to write.
abbrev pub HasNoRoom : (List ℕ → Type 0) → ℕ → Type 0
HasNoRoom ToWrite room = (bytes : List ℕ) × ToWrite bytes × (room < length bytes)

-- The bytes to be written stand at the front of the output, and the later bytes of the output are unchanged. `len` is their number.
abbrev pub IsWritten : (List ℕ → Type 0) → List ℕ → List ℕ → ℕ → Type 0
IsWritten ToWrite before after len =
    (bytes : List ℕ) × ToWrite bytes × (length bytes ≤ length before) × (len ≡ length bytes) × (after ≡ bytes ++ drop len before)

-- The checks of `hart_encode`, in this order: the checks of the frame; there are 5 to 20 preamble bytes; the message fits.
abbrev pub encode_checks : HartFrame → ℕ → ℕ → List Check
encode_checks frame preambles room =
    frame_checks frame ++ needs (IsPreambleCount preambles) (Frame BadPreamble)
    ∷ refused_if (HasNoRoom (IsMessage (frame_in frame) preambles) room) NoRoom ∷ []

-- Either a message of the frame is written, and the call returns the message's length. Or the call returns the number of a fault, and the
-- output is unchanged.
abbrev pub EncodeOutcome : HartFrame → ℕ → List ℕ → List ℕ → HartOutcome → Type 0
EncodeOutcome frame preambles before after =
    Outcome (encode_checks frame preambles (length before))
    (λ len. IsFrame frame × IsPreambleCount preambles × IsWritten (IsMessage (frame_in frame) preambles) before after len)
    (after ≡ before) outcome_of
