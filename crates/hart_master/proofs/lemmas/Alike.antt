-- A master over frames and a master decide alike.
use Rattle.std.proofs.Common.{◌≡◌, ◌≤◌, ◌<◌, ◌⊎◌, inl, inr, ℕ, true, arith, is_some, Option, None, Some, IsSome, refl, slice_index}
use Rattle.std.proofs.lemmas.Bool.Decides.{nat_tests}
use Rattle.std.proofs.lemmas.Grind.{common_steps}
use Rattle.hart_values.specs.declared.{address.Address.Address, master_id.MasterId.MasterId}
use Rattle.hart_frame.specs.wire.FrameParts.{FrameParts}
use Rattle.hart_commands.specs.Commands.{command_name, command_of, known}
use Rattle.hart_commands.specs.ReplyData.{reply_reading}
use Rattle.hart_commands.specs.declared.{reply.Reply.Reply, request.Request.Request}
use Rattle.hart_master.specs.Acceptance.{IsReplyFrame, IsReplyTo}
use Rattle.hart_master.specs.FrameMaster.{AreAlike, IsReceived, event_of, frame_of, hand_received}
use Rattle.hart_master.specs.Master.{FrameBrings, IsHeard, hand_heard}
use Rattle.hart_master.specs.declared.event.MasterEvent.{MasterEvent}
use Rattle.hart_master.specs.declared.event.MasterEvent.TheVariants as events
use Rattle.hart_master.specs.declared.frame_event.FrameEvent.{FrameEvent}
use Rattle.hart_master.specs.declared.frame_event.FrameEvent.TheVariants as frame_events
use Rattle.hart_master.specs.declared.frame_hand.FrameHand.{FrameHand}
use Rattle.hart_master.specs.declared.frame_hand.FrameHand.TheVariants.{Awaiting}
use Rattle.hart_master.specs.declared.hand.Hand.{Hand}
use Rattle.hart_master.specs.declared.hand.Hand.TheVariants as hands
use Rattle.hart_master.proofs.lemmas.Laws.{communication_faults_are_no_reply-frame}

-- the command of a request has a name
pub has_name : (request : Request) → is_some (command_name (command_of request)) ≡ true
unfolding known
has_name request = grind (arith, nat_tests)

-- a number is below 128, or it is not
low_or_high : (code : ℕ) → (code < 128) ⊎ (128 ≤ code)
low_or_high code = grind arith

-- a frame that is a reply to a request is the reply to its frame
pub reply_is_alike : (id : MasterId) (address : Address) (request : Request) (frame : FrameParts) (reply : Reply)
    → IsReplyTo id address request frame reply → IsReplyFrame (frame_of id address request) frame
reply_is_alike id address request frame reply is = record {
  answers = is.answers;
  heard = elim (low_or_high (slice_index frame.payload 0)) [
    | inl low ↦ low
    | inr high ↦ absurd (communication_faults_are_no_reply-frame id address request frame reply high is)
  ];
  read = λ named. grind (arith, common_steps, is.read);
}

-- a reading that there is, is the reading of a reply
some_reply : (read : Option Reply) → IsSome read → (reply : Reply) × (read ≡ Some reply)
some_reply None some = absurd (grind arith)
some_reply (Some reply) some = (reply, refl)

-- a frame that is the reply to the frame of a request is a reply to it
pub frame_is_alike : (id : MasterId) (address : Address) (request : Request) (frame : FrameParts)
    → IsReplyFrame (frame_of id address request) frame → (reply : Reply) × IsReplyTo id address request frame reply
frame_is_alike id address request frame is =
    let named : IsSome (command_name frame.command) = grind (arith, is.answers.command, has_name request) in
    let (reply, read) = some_reply (reply_reading frame.command frame.payload) (is.read named) in
    (reply, record { answers = is.answers; read = read })

-- a frame brings a reply to both masters, or to neither
pub received_alike : (id : MasterId) (hand : Hand) (other : FrameHand) (frame : FrameParts) (event : MasterEvent) (told : FrameEvent)
    → AreAlike id hand other → IsHeard hand (FrameBrings id hand frame) event → IsReceived other frame told
    → (told ≡ event_of event) × AreAlike id (hand_heard hand event) (hand_received other told)
received_alike id (hands.Awaiting asked time) (Awaiting sent later) frame (events.Answered reply n) (frame_events.Answered m)
    alike heard received = grind (arith, common_steps)
received_alike id (hands.Awaiting asked time) (Awaiting sent later) frame (events.Answered reply n) frame_events.Nothing
    alike heard received =
    let same : sent.request ≡ frame_of id asked.address asked.request = grind (arith, alike) in
    absurd (received (rw same (reply_is_alike id asked.address asked.request frame reply heard.0)))
received_alike id (hands.Awaiting asked time) (Awaiting sent later) frame events.Nothing (frame_events.Answered m) alike heard received =
    let same : sent.request ≡ frame_of id asked.address asked.request = grind (arith, alike) in
    let brought = frame_is_alike id asked.address asked.request frame (rw (← same) received.0) in
    absurd (heard brought.0 brought.1)
received_alike id (hands.Awaiting asked time) (Awaiting sent later) frame events.Nothing frame_events.Nothing alike heard received =
    (refl, alike)
received_alike id hand other frame event told alike heard received = grind (arith, common_steps)
