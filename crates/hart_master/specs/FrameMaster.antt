-- The state of a `FrameMaster` in contracts, and what its calls return and change (HCF_SPEC-081; implementation choice: the limits).
use Rattle.std.specs.Prelude.{◌≡◌, ◌≤◌, ◌<◌, ◌+◌, ◌&&◌, ℕ, nat_le, nat_lt, if◌then◌else◌, not, Bool, true, false, Option, None, Some}
use Rattle.std.specs.Prelude.{IsTrue, Result, Ok, Err}
use Rattle.hart_values.specs.declared.{address.Address.Address, master_id.MasterId.MasterId}
use Rattle.hart_frame.specs.wire.FrameParts.{FrameParts, request_parts}
use Rattle.hart_commands.specs.RequestData.{command_of, request_data}
use Rattle.hart_commands.specs.declared.request.Request.{Request}
use Rattle.hart_master.specs.declared.event.MasterEvent.{MasterEvent}
use Rattle.hart_master.specs.declared.event.MasterEvent.TheVariants as events
use Rattle.hart_master.specs.declared.fault.MasterFault.TheVariants.{Pending, WrongAddress}
use Rattle.hart_master.specs.declared.frame_hand.FrameHand.{FrameHand}
use Rattle.hart_master.specs.declared.frame_hand.FrameHand.TheVariants.{Empty, Due, Awaiting, Answered}
use Rattle.hart_master.specs.declared.frame_hand.FrameTransaction.{FrameTransaction}
use Rattle.hart_master.specs.declared.frame_event.FrameEvent.{FrameEvent}
use Rattle.hart_master.specs.declared.frame_event.FrameEvent.TheVariants as frame_events
use Rattle.hart_master.specs.declared.frame_event.RejectedFrame.{RejectedFrame}
use Rattle.hart_master.specs.declared.hand.Hand.{Hand}
use Rattle.hart_master.specs.declared.hand.Hand.TheVariants as hands
use Rattle.hart_master.specs.{Acceptance.IsReplyFrame, Master.time_ticked, Pairing.may_send}

-- A `FrameMaster` has one request frame in hand or none. It sends a request again at most `retries` times, and waits for each reply for
-- `reply_limit` character times.
pub record FrameMasterState : Type 0 where
  pub retries : ℕ
  pub reply_limit : ℕ
  pub hand : FrameHand

-- A frame is the request of a master if it is an STX with the burst bit clear and without expansion bytes.
abbrev pub IsRequestFrame : FrameParts → Type 0
IsRequestFrame frame = frame ≡ request_parts frame.master frame.address frame.command frame.payload

-- A master may send a frame if it is the request of a master, and its command is unknown or may go to its address.
abbrev pub MayBeSent : FrameParts → Type 0
MayBeSent frame = IsRequestFrame frame × IsTrue (may_send frame)

-- How often the request in hand was sent, or 0 if no request is in hand.
abbrev pub sendings_of : FrameHand → ℕ
sendings_of Empty = 0
sendings_of (Due transaction) = transaction.sendings
sendings_of (Awaiting transaction time) = transaction.sendings
sendings_of (Answered transaction) = transaction.sendings

-- A master may send each request that it has in hand. A request that is due was sent at most `retries` times so far. A request that awaits
-- its reply, or that was answered, was sent at least once and at most `retries + 1` times.
abbrev pub IsWithin : ℕ → FrameHand → Type 0
IsWithin retries Empty = Unit {0}
IsWithin retries (Due transaction) = MayBeSent transaction.request × (transaction.sendings ≤ retries)
IsWithin retries (Awaiting transaction time) =
    MayBeSent transaction.request × (0 < transaction.sendings) × (transaction.sendings ≤ retries + 1)
IsWithin retries (Answered transaction) =
    MayBeSent transaction.request × (0 < transaction.sendings) × (transaction.sendings ≤ retries + 1)

-- Whether a master takes a new request: no request is in hand, or the request in hand was answered.
abbrev pub is_idle : FrameHand → Bool
is_idle Empty = true
is_idle (Due transaction) = false
is_idle (Awaiting transaction time) = false
is_idle (Answered transaction) = true

-- The result of submitting a frame. If the master is not idle, the frame is rejected with `Pending`. Otherwise, if the frame may not be
-- sent to its address, it is rejected with `WrongAddress`.
abbrev pub result_submitted : FrameHand → FrameParts → Result (Unit {0}) RejectedFrame
result_submitted hand request =
    if not (is_idle hand) then Err (record { fault = Pending; request = request })
    else if may_send request then Ok tt
    else Err (record { fault = WrongAddress; request = request })

-- What is in hand after a submission. A request that is not rejected is in hand and not sent yet. A rejected request changes nothing.
abbrev pub hand_submitted : FrameHand → FrameParts → FrameHand
hand_submitted hand request =
    if is_idle hand && may_send request then Due (record { request = request; sendings = 0 }) else hand

-- The frame that is due to be sent, if any.
abbrev pub frame_due : FrameHand → Option FrameParts
frame_due Empty = None
frame_due (Due transaction) = Some transaction.request
frame_due (Awaiting transaction time) = None
frame_due (Answered transaction) = None

-- What is in hand after the request that is due was sent: its number of sendings is one more, and its reply is awaited.
abbrev pub hand_sent : FrameHand → FrameHand
hand_sent Empty = Empty
hand_sent (Due transaction) = Awaiting (record transaction { sendings = transaction.sendings + 1 }) 0
hand_sent (Awaiting transaction time) = Awaiting transaction time
hand_sent (Answered transaction) = Answered transaction

-- A frame brings the reply if a reply is awaited and the frame is this reply.
abbrev pub BringsReply : FrameHand → FrameParts → Type 0
BringsReply Empty frame = ⊥
BringsReply (Due transaction) frame = ⊥
BringsReply (Awaiting transaction time) frame = IsReplyFrame transaction.request frame
BringsReply (Answered transaction) frame = ⊥

-- The event that the master returns for a frame. If the frame brings the reply, the event is `Answered`, with the number of sendings.
-- Otherwise the event is `Nothing`.
abbrev pub IsReceived : FrameHand → FrameParts → FrameEvent → Type 0
IsReceived hand frame (frame_events.Answered sendings) = BringsReply hand frame × (sendings ≡ sendings_of hand)
IsReceived hand frame frame_events.Nothing = BringsReply hand frame → ⊥
IsReceived hand frame frame_events.Retry = ⊥
IsReceived hand frame (frame_events.NoReply sendings) = ⊥

-- What is in hand after a frame was received. An answered request stays in hand as answered. Without an answer, nothing changes.
abbrev pub hand_received : FrameHand → FrameEvent → FrameHand
hand_received (Awaiting transaction time) (frame_events.Answered sendings) = Answered transaction
hand_received hand event = hand

-- The event at the end of a wait: `Retry` if the request was sent at most `retries` times so far, and otherwise `NoReply`.
abbrev pub event_ended : ℕ → FrameTransaction → FrameEvent
event_ended retries transaction =
    if nat_le transaction.sendings retries then frame_events.Retry else frame_events.NoReply transaction.sendings

-- What is in hand at the end of a wait. After `Retry` the request is due again. After `NoReply` no request is in hand.
abbrev pub hand_ended : ℕ → FrameTransaction → FrameHand
hand_ended retries transaction = if nat_le transaction.sendings retries then Due transaction else Empty

-- The event after some time. If a reply is awaited and the time reaches the reply limit, the wait ends. In all other cases the event is
-- `Nothing`.
abbrev pub event_ticked : (retries reply_limit : ℕ) → FrameHand → ℕ → FrameEvent
event_ticked retries reply_limit Empty character_times = frame_events.Nothing
event_ticked retries reply_limit (Due transaction) character_times = frame_events.Nothing
event_ticked retries reply_limit (Awaiting transaction time) character_times =
    if nat_lt (time_ticked time character_times) reply_limit then frame_events.Nothing else event_ended retries transaction
event_ticked retries reply_limit (Answered transaction) character_times = frame_events.Nothing

-- What is in hand after some time. If a reply is awaited, the time adds up, and the wait ends when the sum reaches the reply limit.
abbrev pub hand_ticked : (retries reply_limit : ℕ) → FrameHand → ℕ → FrameHand
hand_ticked retries reply_limit Empty character_times = Empty
hand_ticked retries reply_limit (Due transaction) character_times = Due transaction
hand_ticked retries reply_limit (Awaiting transaction time) character_times =
    if nat_lt (time_ticked time character_times) reply_limit then Awaiting transaction (time_ticked time character_times)
    else hand_ended retries transaction
hand_ticked retries reply_limit (Answered transaction) character_times = Answered transaction

-- The event if the caller ends a wait, or repeats a request that was answered: the event at the end of a wait. In all other cases the event
-- is `Nothing`.
abbrev pub event_again : ℕ → FrameHand → FrameEvent
event_again retries Empty = frame_events.Nothing
event_again retries (Due transaction) = frame_events.Nothing
event_again retries (Awaiting transaction time) = event_ended retries transaction
event_again retries (Answered transaction) = event_ended retries transaction

-- What is in hand after the caller ends a wait, or repeats a request that was answered: this request is due again or dropped. In all other
-- cases nothing changes.
abbrev pub hand_again : ℕ → FrameHand → FrameHand
hand_again retries Empty = Empty
hand_again retries (Due transaction) = Due transaction
hand_again retries (Awaiting transaction time) = hand_ended retries transaction
hand_again retries (Answered transaction) = hand_ended retries transaction

-- The request frame of a request.
abbrev pub frame_of : MasterId → Address → Request → FrameParts
frame_of id address request = request_parts id address (command_of request) (request_data request)

-- What a `FrameMaster` has in hand if it has the same request in hand as this `Master`.
abbrev pub framed : MasterId → Hand → FrameHand
framed id hands.Empty = Empty
framed id (hands.ToSend transaction) =
    Due (record { request = frame_of id transaction.address transaction.request; sendings = transaction.sendings })
framed id (hands.Awaiting transaction time) =
    Awaiting (record { request = frame_of id transaction.address transaction.request; sendings = transaction.sendings }) time

-- What is in hand as a `Master` counts it: a request that was answered is no longer in hand.
abbrev pub settled : FrameHand → FrameHand
settled Empty = Empty
settled (Due transaction) = Due transaction
settled (Awaiting transaction time) = Awaiting transaction time
settled (Answered transaction) = Empty

-- Whether a `Master` and a `FrameMaster` have the same request in hand, or both have no request in hand.
abbrev pub AreAlike : MasterId → Hand → FrameHand → Type 0
AreAlike id hand frames = settled frames ≡ framed id hand

-- The event of a `Master`, as a `FrameMaster` returns it: without the reply, because the caller has the frame of the reply.
abbrev pub event_of : MasterEvent → FrameEvent
event_of (events.Answered reply sendings) = frame_events.Answered sendings
event_of events.Nothing = frame_events.Nothing
event_of events.Retry = frame_events.Retry
event_of (events.NoReply sendings) = frame_events.NoReply sendings
