-- What was sent in a leg, and how the device answers it. Only private calls use these definitions (implementation choice).
use Rattle.std.specs.Prelude.{◌≡◌, ℕ, ◌≤◌, List, Option, IfSome}
use Rattle.hart_frame.specs.wire.Body.{IsBody}
use Rattle.hart_line.specs.Types.{FrameParts, Brought, DeviceState, Process}
use Rattle.hart_device.specs.answer.Delivery.{answer_to, state_after_delivery}
use Rattle.hart_line.specs.world.Spoken.{SpokenFrame, frame_of}

-- `IsBrought` is true of what the device was brought: a frame, a garbled request or no message. `answer` is the device's answer to it, and
-- `after` is the device's state afterwards.
pub record AnswersTo (IsBrought : Brought → Type 0) (device : DeviceState) (process : Process) (answer : Option FrameParts)
    (after : DeviceState) : Type 0 where
  pub brought : Brought
  pub is_brought : IsBrought brought
  pub answer_is : answer ≡ answer_to device process brought
  pub after_is : after ≡ state_after_delivery device brought

-- A spoken frame has a body and at least two preamble bytes before it.
abbrev pub IsSpeakable : SpokenFrame → Type 0
IsSpeakable said = (2 ≤ said.preambles) × (body : List ℕ) × IsBody said.frame body

-- `sent` and `said` have the same frame, or both are `None`. A spoken frame has a body and at least two preamble bytes before it.
pub record IsSent (sent : Option FrameParts) (said : Option SpokenFrame) : Type 0 where
  pub frame : frame_of said ≡ sent
  pub speakable : IfSome said IsSpeakable
