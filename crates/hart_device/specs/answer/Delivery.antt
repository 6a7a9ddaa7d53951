-- What a delivery (all that a device heard at once) brings the device, and how the device answers and changes (implementation choice).
use Rattle.std.specs.Prelude.{◌≡◌, List, [], ◌∷◌, Option, None, Some}
use Rattle.hart_frame.specs.heard.Character.{Character}
use Rattle.hart_frame.specs.wire.FrameParts.{FrameParts}
use Rattle.hart_frame.specs.heard.Frames.{AreFrames}
use Rattle.hart_frame.specs.declared.heard.found.Found.{Found}
use Rattle.hart_device.specs.declared.answer.garbled.GarbledRequest.{GarbledRequest}
use Rattle.hart_device.specs.declared.identity_parts.IdentityParts.{IdentityParts}
use Rattle.hart_device.specs.declared.process.Process.{Process}
use Rattle.hart_device.specs.answer.Answer.{answer_of, state_after}
use Rattle.hart_device.specs.Device.{DeviceState}
use Rattle.hart_device.specs.answer.Garbled.{HasGarbled, garbled_reply}

-- What a delivery brings a device: one frame, a garbled request, or no message.
pub data Brought : Type 0 where
  OneFrame : (frame : FrameParts) → Brought
  Garbled : (request : GarbledRequest) → Brought
  NoMessage : Brought

-- A delivery with exactly one frame brings this frame. A delivery with several frames brings no message. A delivery without a frame brings
-- its garbled request, or no message if it has no garbled request.
abbrev pub BringsBy : IdentityParts → List Character → List Found → Brought → Type 0
BringsBy identity delivery (found ∷ []) brought = brought ≡ OneFrame found.frame
BringsBy identity delivery [] (OneFrame frame) = ⊥
BringsBy identity delivery [] (Garbled request) = HasGarbled identity delivery request
BringsBy identity delivery [] NoMessage = (request : GarbledRequest) → HasGarbled identity delivery request → ⊥
BringsBy identity delivery (found ∷ other ∷ more) brought = brought ≡ NoMessage

-- What a delivery brings a device, given the frames that the delivery has.
pub record Brings (identity : IdentityParts) (delivery : List Character) (brought : Brought) : Type 0 where
  pub frames : List Found
  pub are_frames : AreFrames delivery 0 frames
  pub by_frames : BringsBy identity delivery frames brought

-- What the device answers: its answer to a frame, the communication-fault reply to a garbled request, and nothing if the delivery brings no
-- message.
abbrev pub answer_to : DeviceState → Process → Brought → Option FrameParts
answer_to state process (OneFrame frame) = answer_of state process frame
answer_to state process (Garbled request) = Some (garbled_reply state.identity request)
answer_to state process NoMessage = None

-- If a delivery brings a frame, the state afterwards is the state after that frame. Otherwise the state is unchanged.
abbrev pub state_after_delivery : DeviceState → Brought → DeviceState
state_after_delivery state (OneFrame frame) = state_after state frame
state_after_delivery state (Garbled request) = state
state_after_delivery state NoMessage = state
