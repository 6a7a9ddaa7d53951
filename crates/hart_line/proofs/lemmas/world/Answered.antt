-- Each accepted reply was accepted in the turn in which its request was last sent, and is the reply that the device made.
use Rattle.hart_line.proofs.Common.{same_Some, ◌≡◌, ℕ, ◌+◌, ap, ◌∙◌, sym, arith, slice_index, Option, None, Some, List, slice_set, ◌⊎◌, inl}
use Rattle.hart_line.proofs.Common.{inr, refl, subst, nat_tests, common_steps, slice_get, Address, MasterId, FrameParts, Reply, Request}
use Rattle.hart_line.proofs.Common.{AreValid, Contents, Overwrite, registers_of, IsRequest, MasterFault, DeviceState, Effect, Executes}
use Rattle.hart_line.proofs.Common.{answer_of, reply_of, Brought, Garbled, OneFrame, answer_to, Process, Heard, LineEvent, Submit, Turn}
use Rattle.hart_line.proofs.Common.{Answered, Party, Arrives, AnswersLastSending, IsWellMadeStart, IsStepOf, submissions_of}
use Rattle.hart_line.proofs.Common.{brought_in_step, spoken_by, submitted, Accepts, IsLast, spoken_request, outcome_of, LeadsTo, effect_on}
use Rattle.hart_line.proofs.Common.{executions_after, InHand, Start, World, first_world, state_of, Execution, overwrites_of}
use Rattle.hart_device.proofs.lemmas.Laws.{answers_are_replies-read, registers_of_lists-none, writes_execute_their_overwrite-well_made}
use Rattle.hart_master.specs.Acceptance.{IsReplyTo}
use Rattle.hart_master.proofs.lemmas.Laws.{communication_faults_are_no_reply-frame}
use Rattle.hart_commands.proofs.lemmas.Laws.{overwrites_are_valid}
use Rattle.hart_line.proofs.Common.{slice_get-append, slice_get-set}
use Rattle.hart_line.proofs.lemmas.world.Steps.{along, turn_cases, entered, frame_in, contents-more}
use Rattle.hart_line.proofs.lemmas.world.Submitted.{held_in}

-- IN EVERY WORLD THE REGISTERS HOLD VALID BYTES
-- An effect leaves valid bytes valid, because only well-made requests are executed.
effect_made : (state : DeviceState) (brought : Brought) (overwrite : Overwrite) → effect_on state brought ≡ Executes overwrite
    → IsRequest overwrite
effect_made state brought overwrite is = grind (arith, writes_execute_their_overwrite-well_made)

effect_valid : (initial : Contents) (effect : Effect) (number : ℕ) (executions : List Execution)
    → ((overwrite : Overwrite) → effect ≡ Executes overwrite → IsRequest overwrite)
    → AreValid (registers_of (overwrites_of executions) initial)
    → AreValid (registers_of (overwrites_of (executions_after effect number executions)) initial)
effect_valid initial (Executes overwrite) number executions made valid =
    subst AreValid (contents-more executions (record { submission = number; overwrite = overwrite }) initial)
    (overwrites_are_valid overwrite (registers_of (overwrites_of executions) initial) (made overwrite refl) valid)
effect_valid initial effect number executions made valid = valid

-- So the bytes are valid in every world that events lead to.
led_valid : (start : Start) → AreValid start.device.contents → (events : List LineEvent) (world : World)
    → LeadsTo start (first_world start) events world → AreValid (state_of start.device world).contents
led_valid start valid events = along start (first_world start) events (λ es world. AreValid (state_of start.device world).contents)
    (λ before next event here holds. let (number, executions, marks) = entered start before event next here.step in
    let brought = brought_in_step start before event next here.step in
    rw executions (effect_valid start.device.contents (effect_on (state_of start.device before) brought) number before.executions
    (effect_made (state_of start.device before) brought) holds)) (rw registers_of_lists-none valid)

-- The reply that a master accepts from the device's answer is the reply that the device made.
device_replied : (start : Start) (events : List LineEvent) (before : World) (who : MasterId) (held : InHand) (answer : FrameParts)
    (reply : Reply) → IsWellMadeStart start → LeadsTo start (first_world start) events before
    → answer_of (state_of start.device before) start.process (spoken_request who held).frame ≡ Some answer
    → IsReplyTo who held.address held.request answer reply
    → reply ≡ reply_of (state_of start.device before) start.process (spoken_request who held).frame
device_replied start events before who held answer reply made led answered is =
    let read = answers_are_replies-read (state_of start.device before) start.process (spoken_request who held).frame answer
    (led_valid start made.device.contents events before led) made.process (grind arith) answered in
    grind (arith, common_steps, same_Some)

-- THE TURN OF THE LAST SENDING
-- What is found in a list after an element was stored in it.
slice_set-cases : {A : Type 0} (xs : List A) (k : ℕ) (y : A) (n : ℕ) (x : A) → slice_get (slice_set xs k y) n ≡ Some x
    → (slice_get xs n ≡ Some x) ⊎ ((n ≡ k) × (y ≡ x))
slice_set-cases xs k y n x is = grind (arith, nat_tests, slice_get-set)

-- A reply that is the outcome of a turn was accepted in that turn. It came back, and is the device's answer to what was sent.
answers_sent : (state : DeviceState) (process : Process) (who : MasterId) (held : InHand) (brought : Brought)
    (returned : Option FrameParts) (accepted : Option Reply) (retries : ℕ) (reply : Reply) (sendings : ℕ)
    → (frame_in brought ≡ None) ⊎ (brought ≡ OneFrame (spoken_request who held).frame)
    → (returned ≡ None) ⊎ (returned ≡ answer_to state process brought) → Accepts who (Some held) returned accepted
    → outcome_of retries (held.sendings + 1) accepted ≡ Answered reply sendings
    → (brought ≡ OneFrame (spoken_request who held).frame) × (frame : FrameParts)
    × (answer_of state process (spoken_request who held).frame ≡ Some frame) × (returned ≡ Some frame)
    × IsReplyTo who held.address held.request frame reply × (sendings ≡ held.sendings + 1)
answers_sent state process who held brought None accepted retries reply sendings known back accepts is = grind arith
answers_sent state process who held brought returned None retries reply sendings known back accepts is = grind arith
answers_sent state process who held (Garbled request) (Some frame) (Some accepted) retries reply sendings known back accepts is =
    grind (arith, common_steps, slice_index, communication_faults_are_no_reply-frame, same_Some)
answers_sent state process who held brought (Some frame) (Some accepted) retries reply sendings known back accepts is = grind arith

came_back : (party : Party) (preambles : ℕ) (down : Heard) (answer returned : Option FrameParts)
    → Arrives down (spoken_by party preambles answer) returned → (returned ≡ None) ⊎ (returned ≡ answer)
came_back party preambles down answer returned back = grind arith

-- A submission adds no answered outcome.
not_answered : (world : World) (who : MasterId) (address : Address) (request : Request) (fault : Option MasterFault) (number : ℕ)
    (reply : Reply) (sendings : ℕ) → slice_get (submitted world who address request fault).outcomes number ≡ Some (Answered reply sendings)
    → slice_get world.outcomes number ≡ Some (Answered reply sendings)
not_answered world who address request fault number reply sendings is = grind (arith, slice_get-append)

pub answered_last : (start : Start) (events : List LineEvent) → IsWellMadeStart start → (last : World) → IsLast start events last
    → (number : ℕ) (reply : Reply) (sendings : ℕ) → slice_get last.outcomes number ≡ Some (Answered reply sendings)
    → AnswersLastSending start events number reply sendings
answered_last start events made last run number reply sendings is =
    along start (first_world start) events (λ es. Known) step_known (λ none. cc) last run is
  where
    Known : World → Type 0
    Known world = slice_get world.outcomes number ≡ Some (Answered reply sendings)
        → AnswersLastSending start events number reply sendings

    step_known : (before next : World) (event : LineEvent) (here : IsStepOf start (first_world start) events before event next)
        → Known before → Known next
    step_known before next (Turn who up down) here known is = elim (turn_cases start before who up down next here.step) [
      | inl s ↦ elim (slice_set-cases before.outcomes s.held.submission _ number _ (rw s.next_is at is)) [
        | inl old ↦ known old
        | inr new ↦ (
            let back = came_back _ _ down _ _ here.step.returns in
            let (arrived, answer, given, came, replies, sent) = answers_sent (state_of start.device before) start.process who s.held
            here.step.brought here.step.returned here.step.accepted _ reply sendings s.known back
            (rw s.in_hand at here.step.accepts) new.1 in
            record {
              before = before;
              next = next;
              who = who;
              up = up;
              down = down;
              turn = here;
              held = s.held;
              in_hand = s.in_hand;
              of_submission = sym new.0;
              submitted_as = ap (slice_get (submissions_of events)) new.0 ∙ (held_in start events here who s.held s.in_hand).submitted_as;
              sent = sent;
              brought = arrived;
              answer = answer;
              answered = given;
              returned = came;
              is_reply = replies;
              reply_is = device_replied start here.prefix before who s.held answer reply made here.led given replies;
              executions = grind (arith, common_steps);
              reached = is;
              left = grind (arith, s.next_is, new.1);
            })
      ]
      | inr silent ↦ known (rw silent.1 at is)
    ]
    step_known before next (Submit who address request) here known is =
        known (not_answered before who address request _ number reply sendings (rw here.step at is))
    step_known before next event here known is = grind (arith, common_steps)
