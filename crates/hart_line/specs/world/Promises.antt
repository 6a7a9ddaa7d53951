-- What is promised of a whole script (implementation choice).
use Rattle.std.specs.Prelude.{◌≡◌, ◌≢◌, ◌⊎◌, ℕ, ◌+◌, List, [], ◌∷◌, ◌++◌, map, All, Option, None, Some, IsTrue, Ok, false, true, slice_get}
use Rattle.hart_line.specs.Types.{Address, MasterId, FrameParts, Overwrite, Reply, Request, Brought, NoMessage, OneFrame, DeviceState}
use Rattle.hart_line.specs.Types.{Resets, Process, Heard, LineEvent, Submit, Turn, Outcome, Answered, NoReply, Unfinished, Refused}
use Rattle.hart_values.specs.EachMaster.{of_master}
use Rattle.hart_commands.specs.Registers.{overwrite_of}
use Rattle.hart_commands.specs.RequestCode.{is_write}
use Rattle.hart_commands.specs.RequestData.{IsRequest}
use Rattle.hart_commands.specs.declared.request.Request.TheVariants.{ResetChanged}
use Rattle.hart_device.specs.answer.Answer.{answer_of, code_of, effect_of, is_answered, reading_of, reply_of}
use Rattle.hart_device.specs.Device.{IsDevice}
use Rattle.hart_device.specs.Process.{IsProcess}
use Rattle.hart_master.specs.Acceptance.{IsReplyTo}
use Rattle.hart_master.specs.Master.{MasterState}
use Rattle.hart_line.specs.world.Step.{LeadsTo, Step, effect_on, executions_after, spoken_request}
use Rattle.hart_line.specs.world.World.{InHand, Start, World, first_world, state_of}

-- A script starts with a device, the process values that are passed to the device, and the retry limit of each master.
abbrev pub start_from : DeviceState → Process → MasterState → MasterState → Start
start_from device process primary secondary = record {
  device = device;
  process = process;
  retries = record { primary = primary.retries; secondary = secondary.retries };
}

-- A submission: a master is asked to send a request to an address.
pub record Submission : Type 0 where
  pub who : MasterId
  pub address : Address
  pub request : Request

-- The submissions of a script, in order, including refused submissions.
abbrev pub submissions_of : List LineEvent → List Submission
submissions_of [] = []
submissions_of (Submit who address request ∷ events) =
    record { who = who; address = address; request = request } ∷ submissions_of events
submissions_of (event ∷ events) = submissions_of events

-- The submission whose request is in a master's hand.
abbrev pub submission_in : MasterId → InHand → Submission
submission_in who held = record { who = who; address = held.address; request = held.request }

-- One event of a script: the events before it lead to a world, and the event leads from this world to the next world.
pub record IsStepOf (start : Start) (from : World) (events : List LineEvent) (before : World) (event : LineEvent) (next : World)
    : Type 0 where
  pub prefix : List LineEvent
  pub suffix : List LineEvent
  pub split : events ≡ prefix ++ event ∷ suffix
  pub led : LeadsTo start from prefix before
  pub step : Step start before event next

-- A start is well made if its device and its process are well made. Every value of their types is well made.
pub record IsWellMadeStart (start : Start) : Type 0 where
  pub device : IsDevice start.device
  pub process : IsProcess start.process

-- An accepted reply is the device's answer in the turn in which its request was last sent. The request in hand, with its address, is the
-- request that was submitted to this turn's master under this number. In this turn the request was sent for the last time, and arrived at
-- the device. The device's answer came back and was accepted as this reply, with the device's code, status and data. If the device executed
-- the request as a write, this execution was added to the executions. The request left the hand.
pub record AnswersLastSending (start : Start) (events : List LineEvent) (number : ℕ) (reply : Reply) (sendings : ℕ) : Type 0 where
  pub before : World
  pub next : World
  pub who : MasterId
  pub up : Heard
  pub down : Heard
  pub turn : IsStepOf start (first_world start) events before (Turn who up down) next
  pub held : InHand
  pub in_hand : of_master who before.hands ≡ Some held
  pub of_submission : held.submission ≡ number
  pub submitted_as : slice_get (submissions_of events) number ≡ Some (submission_in who held)
  pub sent : sendings ≡ held.sendings + 1
  pub brought : turn.step.brought ≡ OneFrame (spoken_request who held).frame
  pub answer : FrameParts
  pub answered : answer_of (state_of start.device before) start.process (spoken_request who held).frame ≡ Some answer
  pub returned : turn.step.returned ≡ Some answer
  pub is_reply : IsReplyTo who held.address held.request answer reply
  pub reply_is : reply ≡ reply_of (state_of start.device before) start.process (spoken_request who held).frame
  pub executions : next.executions
      ≡ executions_after (effect_of (state_of start.device before) (spoken_request who held).frame) number before.executions
  pub reached : slice_get next.outcomes number ≡ Some (Answered reply sendings)
  pub left : of_master who next.hands ≡ None

-- The requests of all submissions, in order, including the requests of refused submissions.
abbrev pub requests_of : List LineEvent → List Request
requests_of events = map (λ submission. submission.request) (submissions_of events)

-- The request of each submission is well made.
abbrev pub AreWellMade : List LineEvent → Type 0
AreWellMade events = All IsRequest (requests_of events)

-- The number of times that a submission was sent, as its outcome says. The number is 0 if the submission was refused or does not exist.
abbrev pub sendings_in : Option Outcome → ℕ
sendings_in (Some (Answered reply sendings)) = sendings
sendings_in (Some (NoReply sendings)) = sendings
sendings_in (Some (Unfinished sendings)) = sendings
sendings_in (Some (Refused fault)) = 0
sendings_in None = 0

-- In the turn in which a submission was answered, one execution was added. It has the number of this submission and the overwrite of its
-- request.
pub record IsExecutedInItsTurn (start : Start) (events : List LineEvent) (number : ℕ) (request : Request) (reply : Reply) (sendings : ℕ)
    : Type 0 where
  pub answered : AnswersLastSending start events number reply sendings
  pub overwrite : Overwrite
  pub overwrites : overwrite_of request ≡ Some overwrite
  pub executed : answered.next.executions ≡ answered.before.executions ++ record { submission = number; overwrite = overwrite } ∷ []

-- What an event brought the device. For a turn, it is what the leg up brought. Any other event counts as no message, because only a turn
-- can bring the device a frame. Noise may bring a garbled request, but a garbled request has no effect.
abbrev pub brought_in_step : (start : Start) (before : World) (event : LineEvent) (next : World) → Step start before event next → Brought
brought_in_step start before (Turn who up down) next step = step.brought
brought_in_step start before event next step = NoMessage

-- The device was brought an unrefused write: the frame of a configuration write that the device answers with code 0.
abbrev pub IsUnrefusedWrite : DeviceState → Brought → Type 0
IsUnrefusedWrite state (OneFrame frame) =
    IsTrue (is_write frame.command) × (is_answered state frame ≡ true) × (code_of state frame ≡ 0)
IsUnrefusedWrite state brought = ⊥

-- In a turn of this master one execution is added, with the overwrite of the request in the master's hand and the number of its submission.
-- The request, with its address, was submitted to this master under this number.
pub record IsExecutedFromHand (start : Start) (events : List LineEvent) (who : MasterId) (before next : World) : Type 0 where
  pub held : InHand
  pub in_hand : of_master who before.hands ≡ Some held
  pub submitted_as : slice_get (submissions_of events) held.submission ≡ Some (submission_in who held)
  pub overwrite : Overwrite
  pub overwrites : overwrite_of held.request ≡ Some overwrite
  pub executed : next.executions ≡ before.executions ++ record { submission = held.submission; overwrite = overwrite } ∷ []

-- A frame arrived at the device in a turn, and the device answered it with a nonzero code or not at all.
pub record IsRefusedByDevice (start : Start) (events : List LineEvent) (before next : World) : Type 0 where
  pub who : MasterId
  pub up : Heard
  pub down : Heard
  pub turn : IsStepOf start (first_world start) events before (Turn who up down) next
  pub frame : FrameParts
  pub brought : turn.step.brought ≡ OneFrame frame
  pub refused : (code_of (state_of start.device before) frame ≢ 0) ⊎ (is_answered (state_of start.device before) frame ≡ false)

-- In these events no turn of this master resets the master's configuration-changed bit.
abbrev pub HasNoReset : Start → World → List LineEvent → MasterId → Type 0
HasNoReset start from events who = (before next : World) (up down : Heard)
    (turn : IsStepOf start from events before (Turn who up down) next) → effect_on (state_of start.device before) turn.step.brought ≢ Resets

-- The last reset of a master's configuration-changed bit. In a turn of the script, a Command 38 of this master was executed with code 0,
-- and no later turn of this master resets the bit. `before` is the world before that turn, and `given` is the counter that the command
-- named, if any.
pub record IsLastReset (start : Start) (events : List LineEvent) (who : MasterId) (before : World) (given : Option ℕ) : Type 0 where
  pub next : World
  pub up : Heard
  pub down : Heard
  pub turn : IsStepOf start (first_world start) events before (Turn who up down) next
  pub frame : FrameParts
  pub brought : turn.step.brought ≡ OneFrame frame
  pub resets : effect_of (state_of start.device before) frame ≡ Resets
  pub reading : reading_of frame ≡ Ok (ResetChanged given)
  pub last : HasNoReset start next turn.suffix who
