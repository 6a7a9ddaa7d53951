-- Which deliveries a master accepts as the reply to its request (HCF_SPEC-081; implementation choice: the burst bit is ignored).
use Rattle.std.specs.Prelude.{◌≡◌, ◌<◌, ℕ, List, [], ◌∷◌, Some, IsSome, slice_index}
use Rattle.hart_values.specs.declared.master_id.MasterId.{MasterId}
use Rattle.hart_values.specs.declared.address.Address.{Address}
use Rattle.hart_frame.specs.declared.wire.kind.FrameKind.TheVariants.{Ack}
use Rattle.hart_frame.specs.declared.heard.found.Found.{Found}
use Rattle.hart_frame.specs.heard.Character.{Character}
use Rattle.hart_frame.specs.wire.FrameParts.{FrameParts}
use Rattle.hart_frame.specs.heard.Frames.{AreFrames}
use Rattle.hart_commands.specs.Commands.{command_name}
use Rattle.hart_commands.specs.RequestData.{command_of}
use Rattle.hart_commands.specs.ReplyData.{reply_reading}
use Rattle.hart_commands.specs.declared.request.Request.{Request}
use Rattle.hart_commands.specs.declared.reply.Reply.{Reply}

-- A frame answers a request if it is an ACK without expansion bytes, and has the master, the address and the command number of the request.
-- The burst bit is ignored.
pub record Matches (id : MasterId) (address : Address) (number : ℕ) (frame : FrameParts) : Type 0 where
  pub kind : frame.kind ≡ Ack
  pub expansion : frame.expansion ≡ []
  pub receiver : frame.master ≡ id
  pub sender : frame.address ≡ address
  pub command : frame.command ≡ number

-- Like `Matches`, with the command number of this request.
abbrev pub MatchesRequest : MasterId → Address → Request → FrameParts → Type 0
MatchesRequest id address request = Matches id address (command_of request)

-- Like `Matches`, with the master, the address and the command number of a request frame of any command.
abbrev pub MatchesFrame : FrameParts → FrameParts → Type 0
MatchesFrame request = Matches request.master request.address request.command

-- A frame is a reply to the request if it answers the request and its payload is read as this reply. A payload with communication
-- faults is not read as a reply.
pub record IsReplyTo (id : MasterId) (address : Address) (request : Request) (frame : FrameParts) (reply : Reply) : Type 0 where
  pub answers : MatchesRequest id address request frame
  pub read : reply_reading frame.command frame.payload ≡ Some reply

-- A delivery (all that was heard at once) is accepted as a reply if it has exactly one frame, and this frame is the reply.
pub record IsAccepted (id : MasterId) (address : Address) (request : Request) (delivery : List Character) (reply : Reply) : Type 0 where
  pub found : Found
  pub alone : AreFrames delivery 0 (found ∷ [])
  pub is_reply : IsReplyTo id address request found.frame reply

-- A frame is the reply to a request frame if it answers the request and has no communication faults. If the command is known,
-- `reply_reading` must also accept the payload.
pub record IsReplyFrame (request frame : FrameParts) : Type 0 where
  pub answers : MatchesFrame request frame
  pub heard : slice_index frame.payload 0 < 128
  pub read : IsSome (command_name frame.command) → IsSome (reply_reading frame.command frame.payload)
