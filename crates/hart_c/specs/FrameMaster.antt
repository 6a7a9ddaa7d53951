-- The master that a caller in C keeps, and how the calls change it (implementation choice).
use Rattle.std.specs.Prelude.{◌≡◌, ◌≤◌, ◌<◌, ◌++◌, ℕ, IsTrue, false, List, [], ◌∷◌, Result, Ok, Err, length, replicate}
use Rattle.hart_frame.specs.wire.Message.{IsPreambleCount}
use Rattle.hart_frame.specs.declared.wire.fault.FrameFault.TheVariants.{BadPreamble}
use Rattle.hart_master.specs.Pairing.{may_send}
use Rattle.hart_master.specs.FrameMaster.{FrameMasterState, IsReceived, IsWithin, event_again, event_ticked, frame_due}
use Rattle.hart_master.specs.FrameMaster.{hand_again, hand_received, hand_sent, hand_submitted, hand_ticked, is_idle, sendings_of}
use Rattle.hart_master.specs.declared.fault.MasterFault.{MasterFault}
use Rattle.hart_master.specs.declared.fault.MasterFault.TheVariants as rejected
use Rattle.hart_master.specs.declared.frame_event.FrameEvent.{FrameEvent}
use Rattle.hart_master.specs.declared.frame_event.FrameEvent.TheVariants as events
use Rattle.hart_master.specs.declared.frame_hand.FrameHand.{FrameHand}
use Rattle.hart_master.specs.declared.frame_hand.FrameHand.TheVariants as hands
use Rattle.hart_master.specs.declared.frame_hand.FrameTransaction.{FrameTransaction}
use Rattle.hart_c.specs.Acceptance.{request_frame_checks}
use Rattle.hart_c.specs.Device.{IsSaid}
use Rattle.hart_c.specs.Faults.{AllPass, Check, Outcome, needs, number_of, number_of_result, outcome_of, refused_if}
use Rattle.hart_c.specs.Messages.{HasNoRoom, IsFrame, IsWritten, frame_checks}
use Rattle.hart_c.specs.Numbers.{frame_in}
use Rattle.hart_c.specs.declared.fault.Fault.{Fault}
use Rattle.hart_c.specs.declared.fault.Fault.TheVariants.{BadMaster, Frame, NoRequest, NoRoom, Pending, WrongAddress}
use Rattle.hart_c.specs.declared.fault.HartOutcome.{HartOutcome}
use Rattle.hart_c.specs.declared.frame.HartFrame.{HartFrame}
use Rattle.hart_c.specs.declared.frame_master.HartEvent.{HartEvent}
use Rattle.hart_c.specs.declared.frame_master.HartMaster.{HartMaster}

-- The number in C that says what a master has in hand.
abbrev pub state_number : FrameHand → ℕ
state_number hands.Empty = 0
state_number (hands.Due transaction) = 1
state_number (hands.Awaiting transaction time) = 2
state_number (hands.Answered transaction) = 3

-- How many character times have passed since the request was sent, if its reply is awaited. Otherwise 0.
abbrev pub waited_in : FrameHand → ℕ
waited_in hands.Empty = 0
waited_in (hands.Due transaction) = 0
waited_in (hands.Awaiting transaction time) = time
waited_in (hands.Answered transaction) = 0

-- The fields of the kept master's `request` make a frame. The transaction is the request of this frame, sent as often as `sendings` says.
pub record IsTransaction (master : HartMaster) (transaction : FrameTransaction) : Type 0 where
  pub numbers : IsFrame master.request
  pub request : transaction.request ≡ frame_in master.request
  pub sendings : transaction.sendings ≡ master.sendings

-- What a kept master has in hand, by its field `state`. If it has no request in hand, its other fields about the request have no meaning.
-- The time has a meaning only if a reply is awaited.
abbrev pub IsInHand : HartMaster → FrameHand → Type 0
IsInHand master hands.Empty = master.state ≡ 0
IsInHand master (hands.Due transaction) = (master.state ≡ 1) × IsTransaction master transaction
IsInHand master (hands.Awaiting transaction time) = (master.state ≡ 2) × IsTransaction master transaction × (time ≡ master.waited)
IsInHand master (hands.Answered transaction) = (master.state ≡ 3) × IsTransaction master transaction

-- The limits of a master: at most 15 retries, and a reply limit of at least 1.
abbrev pub HasLimits : (retries reply_limit : ℕ) → Type 0
HasLimits retries reply_limit = (retries ≤ 15) × (0 < reply_limit)

-- A kept master has this state. Both have the same limits and the same request in hand. With these limits, a master can have this request
-- in hand.
pub record IsMaster (master : HartMaster) (state : FrameMasterState) : Type 0 where
  pub retries : state.retries ≡ master.retries
  pub reply_limit : state.reply_limit ≡ master.reply_limit
  pub limits : HasLimits state.retries state.reply_limit
  pub hand : IsInHand master state.hand
  pub within : IsWithin state.retries state.hand

-- What the caller keeps of a state. `request` is the `HartFrame` of the request in hand.
abbrev pub master_of : FrameMasterState → HartFrame → HartMaster
master_of state request = record {
  request = request;
  retries = state.retries;
  reply_limit = state.reply_limit;
  state = state_number state.hand;
  sendings = sendings_of state.hand;
  waited = waited_in state.hand;
}

-- A kept master had this state, and now has `hand` in hand. `request` is the `HartFrame` of that request, if there is one.
pub record Becomes (before after : HartMaster) (request : HartFrame) (state : FrameMasterState) (hand : FrameHand) : Type 0 where
  pub was : IsMaster before state
  pub is : after ≡ master_of (record state { hand = hand }) request
  pub kept : IsMaster after (record state { hand = hand })

-- An event as a `HartEvent`. If the request was answered or given up, `sendings` says how often the request was sent. With a fault, nothing
-- happened.
abbrev pub event_of : Result FrameEvent Fault → HartEvent
event_of (Ok events.Nothing) = record { event = 0; sendings = 0; fault = 0 }
event_of (Ok (events.Answered sendings)) = record { event = 1; sendings = sendings; fault = 0 }
event_of (Ok events.Retry) = record { event = 2; sendings = 0; fault = 0 }
event_of (Ok (events.NoReply sendings)) = record { event = 3; sendings = sendings; fault = 0 }
event_of (Err fault) = record { event = 0; sendings = 0; fault = number_of fault }

-- The check of a kept master: it describes a state.
abbrev pub master_checks : HartMaster → List Check
master_checks master = needs ((state : FrameMasterState) × IsMaster master state) BadMaster ∷ []

-- A `HartFrame` whose numbers are all 0 and whose flags are all false.
abbrev pub no_frame : HartFrame
no_frame = record {
  start = 0;
  stop = 0;
  device_id = 0;
  expanded_type = 0;
  is_reply = false;
  is_primary = false;
  is_burst = false;
  is_unique = false;
  polling_address = 0;
  command = 0;
  expansion_len = 0;
  payload_len = 0;
  expansion = replicate 3 0;
  payload = replicate 255 0;
}

-- The call writes a kept master with these limits and no request in hand. If a limit is out of range, the call returns a fault, and the
-- kept master is unchanged.
abbrev pub NewMasterOutcome : (retries reply_limit : ℕ) → HartMaster → HartMaster → ℕ → Type 0
NewMasterOutcome retries reply_limit before after =
    Outcome (needs (HasLimits retries reply_limit) BadMaster ∷ [])
    (λ done. HasLimits retries reply_limit
    × (after ≡ master_of (record { retries = retries; reply_limit = reply_limit; hand = hands.Empty }) no_frame)) (after ≡ before)
    number_of_result

-- The fault in C of a request that a master does not take.
abbrev pub submit_fault : MasterFault → Fault
submit_fault rejected.OutOfRange = NoRequest
submit_fault rejected.Pending = Pending
submit_fault rejected.WrongAddress = WrongAddress

-- The checks of `hart_submit`, in this order: the kept master has a state; the fields of the `HartFrame` make a frame; this frame is a
-- request of a master; no request is in hand, or the one in hand was answered; the new request may be sent to its address.
abbrev pub submit_checks : HartFrame → HartMaster → List Check
submit_checks request before =
    master_checks before ++ request_frame_checks request
    ++ needs ((state : FrameMasterState) × IsMaster before state × IsTrue (is_idle state.hand)) Pending
    ∷ needs (IsTrue (may_send (frame_in request))) WrongAddress ∷ []

-- Either all checks are passed and the request is in hand. Or the call returns a fault, and the kept master is unchanged.
abbrev pub SubmitOutcome : HartFrame → HartMaster → HartMaster → ℕ → Type 0
SubmitOutcome request before after =
    Outcome (submit_checks request before)
    (λ done. AllPass (submit_checks request before) × (state : FrameMasterState)
    × Becomes before after request state (hand_submitted state.hand (frame_in request))) (after ≡ before) number_of_result

-- If a request is due, its message is written, and the master then awaits the reply. If no request is due, nothing is written, and the kept
-- master has the same in hand as before.
pub record Sends (preambles : ℕ) (before after : HartMaster) (old new : List ℕ) (len : ℕ) : Type 0 where
  pub preamble : IsPreambleCount preambles
  pub state : FrameMasterState
  pub becomes : Becomes before after before.request state (hand_sent state.hand)
  pub written : IsWritten (IsSaid (frame_due state.hand) preambles) old new len

-- The checks of `hart_send`, in this order: the kept master has a state; there are 5 to 20 preamble bytes; the message fits.
abbrev pub send_checks : ℕ → HartMaster → ℕ → List Check
send_checks preambles before room =
    master_checks before ++ needs (IsPreambleCount preambles) (Frame BadPreamble)
    ∷ refused_if ((state : FrameMasterState) × IsMaster before state × HasNoRoom (IsSaid (frame_due state.hand) preambles) room) NoRoom
    ∷ []

-- Either the request is sent, and the call returns the length of its message. Or the call returns a fault, and the kept master and the
-- output are unchanged.
abbrev pub SendOutcome : ℕ → HartMaster → HartMaster → List ℕ → List ℕ → HartOutcome → Type 0
SendOutcome preambles before after old new =
    Outcome (send_checks preambles before (length old)) (Sends preambles before after old new) ((after ≡ before) × (new ≡ old)) outcome_of

-- The checks of `hart_receive`, in this order: the kept master has a state; the fields of the `HartFrame` make a frame.
abbrev pub receive_checks : HartFrame → HartMaster → List Check
receive_checks frame before = master_checks before ++ frame_checks frame

-- If all checks pass, the master receives the frame, and the result has the event. Otherwise the call returns a fault, and the kept master
-- is unchanged.
abbrev pub ReceiveOutcome : HartFrame → HartMaster → HartMaster → HartEvent → Type 0
ReceiveOutcome frame before after =
    Outcome (receive_checks frame before)
    (λ event. AllPass (receive_checks frame before) × (state : FrameMasterState)
    × Becomes before after before.request state (hand_received state.hand event) × IsReceived state.hand (frame_in frame) event)
    (after ≡ before) event_of

-- If the kept master has a state, the time passes, and the result has the event. Otherwise the call returns a fault, and the kept master is
-- unchanged.
abbrev pub TickOutcome : ℕ → HartMaster → HartMaster → HartEvent → Type 0
TickOutcome character_times before after =
    Outcome (master_checks before)
    (λ event. (state : FrameMasterState)
    × Becomes before after before.request state (hand_ticked state.retries state.reply_limit state.hand character_times)
    × (event ≡ event_ticked state.retries state.reply_limit state.hand character_times)) (after ≡ before) event_of

-- If the kept master has a state, the wait ends or the request is repeated, and the result has the event. Otherwise the call returns a
-- fault, and the kept master is unchanged.
abbrev pub AgainOutcome : HartMaster → HartMaster → HartEvent → Type 0
AgainOutcome before after =
    Outcome (master_checks before)
    (λ event. (state : FrameMasterState) × Becomes before after before.request state (hand_again state.retries state.hand)
    × (event ≡ event_again state.retries state.hand)) (after ≡ before) event_of
