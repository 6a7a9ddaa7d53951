-- The state of a master in contracts, and what its calls return and change (HCF_SPEC-081; implementation choice: the limits).
use Rattle.std.specs.Prelude.{◌≡◌, ◌≤◌, ◌<◌, ℕ, ◌+◌, min, nat_le, nat_lt, if◌then◌else◌, List, Option, None, Some, Result, Ok, Err}
use Rattle.hart_values.specs.declared.master_id.MasterId.{MasterId}
use Rattle.hart_values.specs.declared.address.Address.{Address}
use Rattle.hart_frame.specs.heard.Character.{Character}
use Rattle.hart_frame.specs.wire.FrameParts.{FrameParts, request_parts}
use Rattle.hart_commands.specs.RequestData.{command_of, request_data}
use Rattle.hart_commands.specs.declared.request.Request.{Request}
use Rattle.hart_commands.specs.declared.reply.Reply.{Reply}
use Rattle.hart_master.specs.declared.event.MasterEvent.{MasterEvent}
use Rattle.hart_master.specs.declared.event.MasterEvent.TheVariants.{Answered, Nothing, Retry, NoReply}
use Rattle.hart_master.specs.declared.fault.MasterFault.TheVariants.{Pending, WrongAddress}
use Rattle.hart_master.specs.declared.fault.Rejected.{Rejected}
use Rattle.hart_master.specs.declared.hand.Hand.{Hand}
use Rattle.hart_master.specs.declared.hand.Hand.TheVariants.{Empty, ToSend, Awaiting}
use Rattle.hart_master.specs.Acceptance.{IsAccepted, IsReplyTo}
use Rattle.hart_master.specs.Pairing.{may_ask}

-- A master is the primary or the secondary master, and has one request in hand or none. It sends a request again at most `retries` times,
-- and waits for each reply for `reply_limit` character times.
pub record MasterState : Type 0 where
  pub id : MasterId
  pub retries : ℕ
  pub reply_limit : ℕ
  pub hand : Hand

-- How often the request in hand was sent, or 0 if no request is in hand.
abbrev pub sendings_of : Hand → ℕ
sendings_of Empty = 0
sendings_of (ToSend transaction) = transaction.sendings
sendings_of (Awaiting transaction time) = transaction.sendings

-- If a request is due to be sent, it was sent at most `retries` times so far. If a reply is awaited, the request was sent at least once and
-- at most `retries + 1` times.
abbrev pub IsWithin : ℕ → Hand → Type 0
IsWithin retries Empty = Unit {0}
IsWithin retries (ToSend transaction) = transaction.sendings ≤ retries
IsWithin retries (Awaiting transaction time) = (0 < transaction.sendings) × (transaction.sendings ≤ retries + 1)

-- The result of submitting a request. If a request is in hand, the new request is rejected with `Pending`. Otherwise, if the new request
-- may not be sent to the address, it is rejected with `WrongAddress`.
abbrev pub result_submitted : Hand → Address → Request → Result (Unit {0}) Rejected
result_submitted Empty address request =
    if may_ask address request then Ok tt else Err (record { fault = WrongAddress; request = request })
result_submitted (ToSend transaction) address request = Err (record { fault = Pending; request = request })
result_submitted (Awaiting transaction time) address request = Err (record { fault = Pending; request = request })

-- What is in hand after a submission. A request that is not rejected is in hand and not sent yet. A rejected request changes nothing.
abbrev pub hand_submitted : Hand → Address → Request → Hand
hand_submitted Empty address request =
    if may_ask address request then ToSend (record { address = address; request = request; sendings = 0 }) else Empty
hand_submitted (ToSend transaction) address request = ToSend transaction
hand_submitted (Awaiting transaction time) address request = Awaiting transaction time

-- The frame that a master sends: the frame of the request that is due, with the data of this request. If no request is due, there is no
-- frame.
abbrev pub frame_sent : MasterId → Hand → Option FrameParts
frame_sent id Empty = None
frame_sent id (ToSend transaction) =
    Some (request_parts id transaction.address (command_of transaction.request) (request_data transaction.request))
frame_sent id (Awaiting transaction time) = None

-- What is in hand after the request that is due was sent: its number of sendings is one more, and its reply is awaited. If no request is
-- due, nothing changes.
abbrev pub hand_sent : Hand → Hand
hand_sent Empty = Empty
hand_sent (ToSend transaction) = Awaiting (record transaction { sendings = transaction.sendings + 1 }) 0
hand_sent (Awaiting transaction time) = Awaiting transaction time

-- A delivery brings a reply if a reply is awaited and the delivery is accepted as this reply.
abbrev pub DeliveryBrings : MasterId → Hand → List Character → Reply → Type 0
DeliveryBrings id Empty delivery reply = ⊥
DeliveryBrings id (ToSend transaction) delivery reply = ⊥
DeliveryBrings id (Awaiting transaction time) delivery reply = IsAccepted id transaction.address transaction.request delivery reply

-- A frame brings a reply if a reply is awaited and the frame is this reply.
abbrev pub FrameBrings : MasterId → Hand → FrameParts → Reply → Type 0
FrameBrings id Empty frame reply = ⊥
FrameBrings id (ToSend transaction) frame reply = ⊥
FrameBrings id (Awaiting transaction time) frame reply = IsReplyTo id transaction.address transaction.request frame reply

-- The event that the master returns for what it heard. If this brought a reply, the event is `Answered`, with the reply and the number of
-- sendings. Otherwise the event is `Nothing`.
abbrev pub IsHeard : Hand → (Reply → Type 0) → MasterEvent → Type 0
IsHeard hand Brought (Answered reply sendings) = Brought reply × (sendings ≡ sendings_of hand)
IsHeard hand Brought Nothing = (reply : Reply) → Brought reply → ⊥
IsHeard hand Brought Retry = ⊥
IsHeard hand Brought (NoReply sendings) = ⊥

-- What is in hand after this event. An answered request is no longer in hand. Without an answer, nothing changes.
abbrev pub hand_heard : Hand → MasterEvent → Hand
hand_heard hand (Answered reply sendings) = Empty
hand_heard hand Nothing = hand
hand_heard hand Retry = hand
hand_heard hand (NoReply sendings) = hand

-- The sum of two numbers of character times, but at most 255.
abbrev pub time_ticked : ℕ → ℕ → ℕ
time_ticked time character_times = min (time + character_times) 255

-- The event after some time. If no reply is awaited, or the time is still below the reply limit, the event is `Nothing`. When the time
-- reaches the limit, the event is `Retry` if the request was sent at most `retries` times so far, and otherwise `NoReply`.
abbrev pub event_ticked : (retries reply_limit : ℕ) → Hand → ℕ → MasterEvent
event_ticked retries reply_limit Empty character_times = Nothing
event_ticked retries reply_limit (ToSend transaction) character_times = Nothing
event_ticked retries reply_limit (Awaiting transaction time) character_times =
    if nat_lt (time_ticked time character_times) reply_limit then Nothing
    else if nat_le transaction.sendings retries then Retry
    else NoReply transaction.sendings

-- What is in hand after some time. If no reply is awaited, nothing changes. Otherwise the event of `event_ticked` decides. After `Nothing`
-- the wait goes on with the new time. After `Retry` the request stays in hand, to be sent again. After `NoReply` the request is dropped.
abbrev pub hand_ticked : (retries reply_limit : ℕ) → Hand → ℕ → Hand
hand_ticked retries reply_limit Empty character_times = Empty
hand_ticked retries reply_limit (ToSend transaction) character_times = ToSend transaction
hand_ticked retries reply_limit (Awaiting transaction time) character_times =
    if nat_lt (time_ticked time character_times) reply_limit then Awaiting transaction (time_ticked time character_times)
    else if nat_le transaction.sendings retries then ToSend transaction
    else Empty
