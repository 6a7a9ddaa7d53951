-- What an event does to a world, and what a script does (implementation choice).
use Rattle.std.specs.Prelude.{◌≡◌, Bool, true, false, ℕ, ◌+◌, nat_le, if◌then◌else◌, List, [], ◌∷◌, ◌++◌, length, slice_set, Option, None}
use Rattle.std.specs.Prelude.{Some}
use Rattle.std.specs.Option.{option_to_list}
use Rattle.hart_line.specs.Types.{Address, MasterId, Character, FrameParts, EachMaster, Reply, Request, Brought, OneFrame, DeviceState}
use Rattle.hart_line.specs.Types.{Effect, Nothing, Executes, Resets, MasterFault, Heard, Chars, LineEvent, Submit, Turn, Protect, Noise}
use Rattle.hart_line.specs.Types.{Restart, Outcome, Answered, NoReply, Unfinished, Refused, Spoken}
use Rattle.hart_frame.specs.wire.FrameParts.{request_parts}
use Rattle.hart_values.specs.EachMaster.{of_master, with_master}
use Rattle.hart_commands.specs.RequestData.{command_of, request_data}
use Rattle.hart_device.specs.answer.Answer.{effect_of, is_answered}
use Rattle.hart_device.specs.answer.Delivery.{answer_to}
use Rattle.hart_device.specs.Device.{for_both}
use Rattle.hart_master.specs.Acceptance.{IsReplyTo}
use Rattle.hart_master.specs.Pairing.{may_ask}
use Rattle.hart_master.specs.declared.fault.MasterFault.TheVariants.{Pending, WrongAddress}
use Rattle.hart_line.specs.world.Damage.{Arrives, Reaches}
use Rattle.hart_line.specs.world.Spoken.{SpokenFrame, master_preambles, spoken_by, party_of, AreSpoken}
use Rattle.hart_line.specs.world.World.{Execution, InHand, Start, World, first_world, state_of}
use Rattle.hart_line.specs.declared.line.report.Party.TheVariants.{Device}

-- A submission is refused with `Pending` if a request is in the master's hand already. Otherwise it is refused with `WrongAddress` if its
-- request may not be sent to its address.
abbrev pub submission_fault : Option InHand → Address → Request → Option MasterFault
submission_fault (Some held) address request = Some Pending
submission_fault None address request = if may_ask address request then None else Some WrongAddress

-- An accepted submission puts its request into the master's hand with 0 sendings, and adds an unfinished outcome. A refused submission only
-- adds its refusal as the outcome, and does not change the hand.
abbrev pub submitted : World → MasterId → Address → Request → Option MasterFault → World
submitted world who address request None = record world {
  hands = with_master who
      (Some (record { submission = length world.outcomes; address = address; request = request; sendings = 0 })) world.hands;
  outcomes = world.outcomes ++ Unfinished 0 ∷ [];
}
submitted world who address request (Some fault) = record world { outcomes = world.outcomes ++ Refused fault ∷ [] }

-- The frame that a master sends in its turn: an STX with the request in its hand, after `master_preambles` preamble bytes.
abbrev pub spoken_request : MasterId → InHand → SpokenFrame
spoken_request who held = record {
  party = party_of who;
  preambles = master_preambles;
  frame = request_parts who held.address (command_of held.request) (request_data held.request);
}

-- A master with nothing in its hand sends nothing.
abbrev pub sent_by : MasterId → Option InHand → Option SpokenFrame
sent_by who None = None
sent_by who (Some held) = Some (spoken_request who held)

-- What the device sends back: its answer, if any, after the number of preamble bytes that its identity gives.
abbrev pub sent_back : Start → World → Brought → Option SpokenFrame
sent_back start world brought = spoken_by Device start.device.identity.response_preambles
    (answer_to (state_of start.device world) start.process brought)

-- The effect on the device of what it was brought. Only a frame has an effect: a garbled request has none, and `NoMessage` has none.
abbrev pub effect_on : DeviceState → Brought → Effect
effect_on state (OneFrame frame) = effect_of state frame
effect_on state brought = Nothing

-- An executed write is added to the executions, under the number of its submission.
abbrev pub executions_after : Effect → ℕ → List Execution → List Execution
executions_after (Executes overwrite) number executions = executions ++ record { submission = number; overwrite = overwrite } ∷ []
executions_after effect number executions = executions

-- A reset, by Command 38, sets the mark of its master to the number of executions so far.
abbrev pub marks_after : Effect → MasterId → ℕ → EachMaster (Option ℕ) → EachMaster (Option ℕ)
marks_after Resets who count marks = with_master who (Some count) marks
marks_after effect who count marks = marks

-- If a frame is answered in a master's turn, the reply shows this master's cold start bit and clears it, whatever its response code. If no
-- frame is answered, both masters' bits are unchanged, even if a garbled request is answered.
abbrev pub cold_start_after : DeviceState → MasterId → Brought → EachMaster Bool
cold_start_after state who (OneFrame frame) = if is_answered state frame then with_master who false state.cold_start else state.cold_start
cold_start_after state who brought = state.cold_start

-- A master accepts the frame that comes back if it is a reply to the request in hand. It accepts no reply (`None`) if the frame is not such
-- a reply, if no frame comes back, or if no request is in hand.
abbrev pub Accepts : MasterId → Option InHand → Option FrameParts → Option Reply → Type 0
Accepts who None returned accepted = accepted ≡ None
Accepts who (Some held) None accepted = accepted ≡ None
Accepts who (Some held) (Some frame) None = (reply : Reply) → IsReplyTo who held.address held.request frame reply → ⊥
Accepts who (Some held) (Some frame) (Some reply) = IsReplyTo who held.address held.request frame reply

-- A request is answered if a reply is accepted. Without an accepted reply, the request is given up if it was sent more than `retries`
-- times. Otherwise the request is unfinished.
abbrev pub outcome_of : (retries sendings : ℕ) → Option Reply → Outcome
outcome_of retries sendings (Some reply) = Answered reply sendings
outcome_of retries sendings None = if nat_le sendings retries then Unfinished sendings else NoReply sendings

-- What stays in hand: an unfinished request, with its count of sendings. Any other request leaves the hand.
abbrev pub hand_left : InHand → Outcome → Option InHand
hand_left held (Unfinished sendings) = Some (record held { sendings = sendings })
hand_left held outcome = None

-- If the device answers what it was brought, the answer is added to what was spoken. Nothing else in the world changes.
abbrev pub replied : Start → World → Brought → World
replied start world brought = record world { spoken = world.spoken ++ option_to_list (sent_back start world brought) }

-- A turn of a master in which the device was brought `brought` and the master accepted `accepted`. If the master has nothing in hand, only
-- the device's answer is spoken, if there is one. Otherwise the request is spoken, and then the answer, if there is one. A write that the
-- device executes is added to the executions, under the number of the submission. A reset by Command 38 sets the master's mark. If the
-- frame is answered, the master's cold start bit is cleared. The submission gets its outcome, which says whether the request stays in hand.
abbrev pub turned : Start → World → MasterId → Option InHand → Brought → Option Reply → World
turned start world who None brought accepted = replied start world brought
turned start world who (Some held) brought accepted =
    let effect = effect_on (state_of start.device world) brought in
    let outcome = outcome_of (of_master who start.retries) (held.sendings + 1) accepted in
    record {
      executions = executions_after effect held.submission world.executions;
      marks = marks_after effect who (length world.executions) world.marks;
      protected = world.protected;
      cold_start = cold_start_after (state_of start.device world) who brought;
      hands = with_master who (hand_left held outcome) world.hands;
      outcomes = slice_set world.outcomes held.submission outcome;
      spoken = world.spoken ++ spoken_request who held ∷ option_to_list (sent_back start world brought);
    }

-- The next world after a turn depends on three things: what the turn brings the device, what comes back of the device's answer, and which
-- reply is accepted.
pub record IsTurn (start : Start) (world : World) (who : MasterId) (up down : Heard) (next : World) : Type 0 where
  pub brought : Brought
  pub arrives : Reaches start.device.identity up (sent_by who (of_master who world.hands)) brought
  pub returned : Option FrameParts
  pub returns : Arrives down (sent_back start world brought) returned
  pub accepted : Option Reply
  pub accepts : Accepts who (of_master who world.hands) returned accepted
  pub next_is : next ≡ turned start world who (of_master who world.hands) brought accepted

-- The next world after noise depends on what the noise brings the device. In noise nothing was sent. The device's answer, if any, is
-- spoken, and both masters hear it without damage. Neither master accepts the answer, because neither awaits a reply.
pub record IsNoise (start : Start) (world : World) (chars : List Character) (next : World) : Type 0 where
  pub brought : Brought
  pub arrives : Reaches start.device.identity (Chars chars) None brought
  pub next_is : next ≡ replied start world brought

-- An event leads from a world to the next world. A submission that has a fault is refused with this fault. A switch of protection changes
-- only the protection. A restart of the device only sets both masters' cold start bits, so the masters keep what they have in hand. A turn
-- or noise with undetected damage leads to no next world.
abbrev pub Step : Start → World → LineEvent → World → Type 0
Step start world (Submit who address request) next =
    next ≡ submitted world who address request (submission_fault (of_master who world.hands) address request)
Step start world (Turn who up down) next = IsTurn start world who up down next
Step start world (Protect on) next = next ≡ record world { protected = on }
Step start world (Noise chars) next = IsNoise start world chars next
Step start world Restart next = next ≡ record world { cold_start = for_both true }

-- The events of a script lead from a world to the world `last`, event by event.
abbrev pub LeadsTo : Start → World → List LineEvent → World → Type 0
LeadsTo start world [] last = last ≡ world
LeadsTo start world (event ∷ events) last = (next : World) × Step start world event next × LeadsTo start next events last

-- The last world of a script is the world to which its events lead from the first world.
abbrev pub IsLast : Start → List LineEvent → World → Type 0
IsLast start events last = LeadsTo start (first_world start) events last

-- `Led` names what a call returns, because a statement about the script alone would also be true of a call that returns something else.
-- A script has led to this device, these outcomes and these spoken frames: the script's last world has all of them.
pub record Led (start : Start) (events : List LineEvent) (device : DeviceState) (outcomes : List Outcome) (spoken : List Spoken)
    : Type 0 where
  pub world : World
  pub last : IsLast start events world
  pub device_is : device ≡ state_of start.device world
  pub outcomes_are : outcomes ≡ world.outcomes
  pub spoken_are : AreSpoken world.spoken spoken
