use Rattle.std.proofs.Common.{◌≡◌, ◌≤◌, inl, inr, ℕ, List, Option, None, Some, arith, length}
use Rattle.hart_frame.specs.wire.FrameParts.{FrameParts}
use Rattle.hart_frame.specs.wire.Message.{IsMessage}
use Rattle.hart_c.specs.Faults.{IsFirstOf, number_of}
use Rattle.hart_c.specs.Device.{IsSaid, hear_checks}
use Rattle.hart_c.specs.Messages.{HasNoRoom, encode_checks}
use Rattle.hart_c.specs.Numbers.{frame_in}
use Rattle.hart_c.specs.declared.device.HartDevice.{HartDevice}
use Rattle.hart_c.specs.declared.fault.Fault.{Fault}
use Rattle.hart_c.specs.declared.fault.Fault.TheVariants.{NoRoom}
use Rattle.hart_c.specs.declared.find.HartChar.{HartChar}
use Rattle.hart_c.specs.declared.frame.HartFrame.{HartFrame}
use Rattle.hart_c.specs.declared.identity.HartIdentity.{HartIdentity}
use Rattle.hart_c.specs.declared.process.HartProcess.{HartProcess}
use Rattle.hart_c.proofs.laws.messages_of_287_bytes_have_room.Goals as goal

-- only the fault `NoRoom` has number 12
no_room : (fault : Fault) → number_of fault ≡ 12 → fault ≡ NoRoom
no_room fault is = grind arith

-- a message with at most 20 preamble bytes has at most 287 bytes
abbrev AreShort : Type 0
AreShort = (frame : FrameParts) (preambles : ℕ) (message : List ℕ) → preambles ≤ 20 → IsMessage frame preambles message
    → length message ≤ 287

-- every frame has room in 287 bytes
frame_fits : AreShort → (frame : FrameParts) (preambles room : ℕ) → preambles ≤ 20 → 287 ≤ room
    → HasNoRoom (IsMessage frame preambles) room → ⊥
frame_fits short frame preambles room few enough (message, is_message, long) =
    omega (arith, short frame preambles message few is_message, long, enough)

written_fits : AreShort → (frame : HartFrame) (preambles room : ℕ) (fault : Fault) → 287 ≤ room
    → IsFirstOf (encode_checks frame preambles room) fault → fault ≡ NoRoom → ⊥
written_fits short frame preambles room fault enough why none = grind (arith, frame_fits short (frame_in frame) preambles room)

-- every reply has room in 287 bytes
reply_fits : AreShort → (reply : Option FrameParts) (preambles room : ℕ) → preambles ≤ 20 → 287 ≤ room
    → HasNoRoom (IsSaid reply preambles) room → ⊥
reply_fits short None preambles room few enough (bytes, silent, long) = grind (arith, silent, long)
reply_fits short (Some reply) preambles room few enough none = frame_fits short reply preambles room few enough none

-- with room for 287 bytes, no delivery that a device hears is refused for lack of room
hear_fits : AreShort → (identity : HartIdentity) (process : HartProcess) (heard : List HartChar) (device : HartDevice) (room : ℕ)
    (fault : Fault) → 287 ≤ room → IsFirstOf (hear_checks identity process heard device room) fault → fault ≡ NoRoom → ⊥
hear_fits short id process heard device room fault enough
    (inr (who, inr (long, inr (kept, inr (count, inr (bits, inr (few, inl (tight, is)))))))) none =
    reply_fits short _ id.response_preambles room tight.0.kept.is_identity.in_range.response_preambles.1 enough tight.1
hear_fits short id process heard device room fault enough (inl (other, why, is)) none = cc
hear_fits short id process heard device room fault enough (inr (who, inl (why, is))) none = cc
hear_fits short id process heard device room fault enough (inr (who, inr (long, inl (other, why, is)))) none = cc
hear_fits short id process heard device room fault enough (inr (who, inr (long, inr (kept, inl (why, is))))) none = cc
hear_fits short id process heard device room fault enough (inr (who, inr (long, inr (kept, inr (count, inl (why, is)))))) none = cc
hear_fits short id process heard device room fault enough
    (inr (who, inr (long, inr (kept, inr (count, inr (bits, inl (why, is))))))) none = cc
hear_fits short id process heard device room fault enough
    (inr (who, inr (long, inr (kept, inr (count, inr (bits, inr (few, inr (_, end)))))))) none = end

pub returns-clause-encode : goal.returns-clause-encode
returns-clause-encode c frame preambles before after outcome room told none = elim told [
  | inl done ↦ grind arith
  | inr why ↦
      written_fits c.messages_are_short.ensures.message frame preambles (length before) why.0 room why.1 (no_room why.0 (grind arith))
]

pub returns-clause-hear : goal.returns-clause-hear
returns-clause-hear c identity process heard before after old new outcome room told none = elim told [
  | inl done ↦ grind arith
  | inr why ↦
      hear_fits c.messages_are_short.ensures.message identity process heard before (length old) why.0 room why.1
      (no_room why.0 (grind arith))
]
