-- Only unrefused writes are executed, in their turn. The last execution of each submission alone leads to the same registers.
use Rattle.hart_line.proofs.Common.{same_Some, ◌≡◌, ℕ, ◌∙◌, sym, refl, Some, IsTrue, List, inl, inr, arith, suc, Ok, Bool, true, false, []}
use Rattle.hart_line.proofs.Common.{◌∷◌, None, Option, ◌⊎◌, ◌+◌, common_steps, elements, nat_tests, get_or-map, length-map, All-push}
use Rattle.hart_line.proofs.Common.{slice_get, All, Contains, option_and_then, MasterId, command_of, Reply, Request, Contents, Overwrite}
use Rattle.hart_line.proofs.Common.{overwrite_of, overwritten, registers_of, DeviceState, Effect, Executes, code_of, reading_of, Brought}
use Rattle.hart_line.proofs.Common.{OneFrame, Heard, LineEvent, Turn, if◌then◌else◌, ◌==◌, AnswersLastSending, AreWellMade, IsStepOf}
use Rattle.hart_line.proofs.Common.{brought_in_step, requests_of, effect_on, executions_after, spoken_request, submitted, IsLast, Execution}
use Rattle.hart_line.proofs.Common.{has_execution_of, last_executions, Start, World, first_world, state_of, InHand, overwrites_of}
use Rattle.hart_line.proofs.Common.{IsExecutedFromHand, IsExecutedInItsTurn, IsUnrefusedWrite}
use Rattle.hart_device.proofs.lemmas.Laws.{answers_give_their_code-answered, writes_execute_their_overwrite-executes}
use Rattle.hart_device.proofs.lemmas.Laws.{writes_execute_their_overwrite-only, registers_of_lists-again, registers_of_lists-first}
use Rattle.std.proofs.lemmas.List.Folds.{Any-from_list_any}
use Rattle.hart_commands.specs.ReplyData.{reply_reading}
use Rattle.hart_commands.specs.RequestCode.{is_write}
use Rattle.hart_commands.proofs.lemmas.Laws.{requests_have_their_command, writes_have_overwrites-exactly, written_data_are_their_request}
use Rattle.hart_line.proofs.Common.{some_of}
use Rattle.hart_line.proofs.lemmas.world.Steps.{entered, turn_cases, Submits, Sends, Stays, along, step_cases, frame_in}
use Rattle.hart_line.proofs.lemmas.world.Submitted.{held_in, made_of, request_there}

-- THE CODE OF A REPLY
reading_code : (command : ℕ) (payload : List ℕ) (reply : Reply) (code : ℕ) → reply_reading command payload ≡ Some reply
    → slice_get payload 0 ≡ Some code → reply.code ≡ code
reading_code command payload reply code read is = grind arith

-- EXECUTIONS
pub turn_executed : (start : Start) (events : List LineEvent) → AreWellMade events
    → (before next : World) (who : MasterId) (up down : Heard)
    (here : IsStepOf start (first_world start) events before (Turn who up down) next)
    → IsUnrefusedWrite (state_of start.device before) here.step.brought → IsExecutedFromHand start events who before next
turn_executed start events made before next who up down here write =
    elim (turn_cases start before who up down next here.step) [
      | inl s ↦ (
          let there = (held_in start events here who s.held s.in_hand).submitted_as in
          let sent : here.step.brought ≡ OneFrame (spoken_request who s.held).frame = grind arith in
          let read = written_data_are_their_request s.held.request (made_of events s.held.submission _ made there) in
          let (served, is_answered, zero) = rw sent at write in
          let (overwrite, is) = some_of (overwrite_of s.held.request) ((writes_have_overwrites-exactly s.held.request).0 served) in
          let effect = writes_execute_their_overwrite-executes (state_of start.device before) (spoken_request who s.held).frame
          s.held.request overwrite is_answered zero read is in
          record {
            held = s.held;
            in_hand = s.in_hand;
            submitted_as = there;
            overwrite = overwrite;
            overwrites = is;
            executed = rw (s.next_is, sent, effect) refl;
          })
      | inr silent ↦ (let none = silent.0 in absurd (grind arith))
    ]

-- AN ACCEPTED REPLY
pub answered_executed : (start : Start) (events : List LineEvent) → AreWellMade events → (number : ℕ) (request : Request)
    (reply : Reply) (sendings : ℕ)
    → AnswersLastSending start events number reply sendings → slice_get (requests_of events) number ≡ Some request
    → IsTrue (is_write (command_of request)) → reply.code ≡ 0 → IsExecutedInItsTurn start events number request reply sendings
answered_executed start events made number request reply sendings a submitted write success =
    let state = state_of start.device a.before in
    let frame = (spoken_request a.who a.held).frame in
    let coded = answers_give_their_code-answered state start.process frame a.answer a.answered in
    let code : code_of state frame ≡ 0 = sym (reading_code a.answer.command a.answer.payload reply _ a.is_reply.read coded.2) ∙ success in
    let same : a.held.request ≡ request = same_Some _ _ (sym (request_there events number _ a.submitted_as) ∙ submitted) in
    let unrefused : IsUnrefusedWrite state (OneFrame frame) = (rw (← same) at write, coded.0, code) in
    let e = turn_executed start events made a.before a.next a.who a.up a.down a.turn (rw a.brought unrefused) in
    let held : e.held ≡ a.held = cc (e.in_hand, a.in_hand) in record {
      answered = a;
      overwrite = e.overwrite;
      overwrites = cc (e.overwrites, held, same);
      executed = grind (arith, e.executed, a.of_submission);
    }

-- NOTHING ELSE
brought_stays : (state : DeviceState) (brought : Brought) (number : ℕ) (executions : List Execution) (effect : Effect)
    → effect_on state brought ≡ effect → (IsUnrefusedWrite state brought → ⊥) → executions_after effect number executions ≡ executions
brought_stays state (OneFrame frame) number executions (Executes overwrite) is other =
    let asked = writes_execute_their_overwrite-only state frame overwrite is in
    grind (arith, common_steps, requests_have_their_command, writes_have_overwrites-exactly)
brought_stays state brought number executions effect is other = grind arith

pub step_stays : (start : Start) (events : List LineEvent) (before next : World) (event : LineEvent)
    (here : IsStepOf start (first_world start) events before event next)
    → (IsUnrefusedWrite (state_of start.device before) (brought_in_step start before event next here.step) → ⊥)
    → next.executions ≡ before.executions
step_stays start events before next event here other =
    let e = entered start before event next here.step in
    e.1 ∙ brought_stays (state_of start.device before) _ e.0 before.executions _ refl other

-- ALL EXECUTIONS OF A SCRIPT ARE WRITES OF THEIR SUBMISSIONS
-- The overwrite of the request that was submitted under a number, if there is one.
abbrev pub write_of : List Request → ℕ → Option Overwrite
write_of requests number = option_and_then overwrite_of (slice_get requests number)

abbrev pub AreWritesOf : List Request → List Execution → Type 0
AreWritesOf requests executions = All (λ execution. write_of requests execution.submission ≡ Some execution.overwrite) executions

arrived_executes : (state : DeviceState) (who : MasterId) (held : InHand) (requests : List Request)
    (brought : Brought) (overwrite : Overwrite) → slice_get requests held.submission ≡ Some held.request
    → reading_of (spoken_request who held).frame ≡ Ok held.request
    → (frame_in brought ≡ None) ⊎ (brought ≡ OneFrame (spoken_request who held).frame) → effect_on state brought ≡ Executes overwrite
    → write_of requests held.submission ≡ Some overwrite
arrived_executes state who held requests (OneFrame frame) overwrite there reading known is =
    let asked = writes_execute_their_overwrite-only state frame overwrite is in grind (arith, common_steps)
arrived_executes state who held requests brought overwrite there reading known is = cc

effect_writes : (effect : Effect) (number : ℕ) (requests : List Request) (executions : List Execution)
    → ((overwrite : Overwrite) → effect ≡ Executes overwrite → write_of requests number ≡ Some overwrite)
    → AreWritesOf requests executions → AreWritesOf requests (executions_after effect number executions)
effect_writes effect number requests executions writes all =
    grind (arith, All-push (λ (execution : Execution). write_of requests execution.submission ≡ Some execution.overwrite))

are_writes : (start : Start) (events : List LineEvent) → AreWellMade events → (last : World) → IsLast start events last
    → AreWritesOf (requests_of events) last.executions
are_writes start events made = along start (first_world start) events (λ es world. AreWritesOf (requests_of events) world.executions)
    (λ before next event here all. elim (step_cases start before event next here.step) [
      | Submits said fault are is ↦ grind arith
      | Sends who brought accepted are s ↦ (let there = (held_in start events here who s.held s.in_hand).submitted_as in
          rw s.next_is (effect_writes _ s.held.submission (requests_of events) before.executions
          (λ overwrite. arrived_executes (state_of start.device before) who s.held (requests_of events) brought overwrite
          (request_there events s.held.submission _ there)
          (written_data_are_their_request s.held.request (made_of events s.held.submission _ made there)) s.known) all))
      | Stays protected cold_start spoken are is ↦ rw is all
    ]) (grind (arith, elements))

-- LAST EXECUTIONS
-- If a submission is executed again later, the later execution has the same overwrite.
contains_again : (writes : ℕ → Option Overwrite) (execution : Execution) (later : List Execution)
    → All (λ e. writes e.submission ≡ Some e.overwrite) (execution ∷ later)
    → has_execution_of execution.submission later ≡ true → Contains (overwrites_of later) execution.overwrite
contains_again writes execution later all executed =
    let (k, e, within, is, same) = Any-from_list_any (λ (e : Execution). e.submission == execution.submission) later executed in
    let first = all 0 execution (omega arith) in let other = all (k + 1) e (omega (arith, within)) in
    (k, grind (arith, length-map), grind (arith, elements, nat_tests, get_or-map))

last_by_submission : (e : Execution) (later : List Execution) (initial : Contents) (b : Bool)
    → (b ≡ true → Contains (overwrites_of later) e.overwrite)
    → ((c : Contents) → registers_of (overwrites_of later) c ≡ registers_of (overwrites_of (last_executions later)) c)
    → registers_of (overwrites_of (e ∷ later)) initial
    ≡ registers_of (overwrites_of (if b then last_executions later else e ∷ last_executions later)) initial
last_by_submission e later initial true there same = grind (arith, common_steps, registers_of_lists-again)
last_by_submission e later initial false there same =
    registers_of_lists-first e.overwrite (overwrites_of later) initial ∙ same (overwritten e.overwrite initial)
    ∙ sym (registers_of_lists-first e.overwrite (overwrites_of (last_executions later)) initial)

registers_of-last : (requests : List Request) (executions : List Execution) → AreWritesOf requests executions → (initial : Contents)
    → registers_of (overwrites_of executions) initial ≡ registers_of (overwrites_of (last_executions executions)) initial
registers_of-last requests [] all initial = refl
registers_of-last requests (e ∷ later) all initial = last_by_submission e later initial (has_execution_of e.submission later)
    (contains_again (write_of requests) e later all)
    (registers_of-last requests later (λ k unused within. all (suc k) unused (omega arith)))

-- THE HEADLINE
pub registers_last : (start : Start) (events : List LineEvent) (last : World) → IsLast start events last → AreWellMade events
    → (state_of start.device last).contents ≡ registers_of (overwrites_of (last_executions last.executions)) start.device.contents
registers_last start events last run made =
    registers_of-last (requests_of events) last.executions (are_writes start events made last run) start.device.contents
