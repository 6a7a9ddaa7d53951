-- A request in hand is unfinished. It was submitted under its number, to its master and for its address. It was executed at most as often
-- as it was sent.
use Rattle.hart_line.proofs.Common.{same_Some, ◌≡◌, ℕ, ◌+◌, ◌<◌, refl, Some, List, [], ◌∷◌, ◌++◌, get_or, length, slice_set, take, arith}
use Rattle.hart_line.proofs.Common.{◌≤◌, common_steps, map-append, take_more, All-append, nat_tests, sum_by-append, slice_get, of_master}
use Rattle.hart_line.proofs.Common.{MasterId, IsRequest, Effect, LineEvent, Outcome, Unfinished, ◌==◌, if◌then◌else◌, append-nil}
use Rattle.hart_line.proofs.Common.{AreWellMade, IsStepOf, Submission, requests_of, submissions_of, IsLast, times_executed, effect_on}
use Rattle.hart_line.proofs.Common.{executions_after, InHand, Start, World, first_world, Execution, state_of, submission_in, sendings_in}
use Rattle.std.proofs.lemmas.Option.{get_or_from_slice_get, slice_get-map, slice_get_past, slice_get_within}
use Rattle.hart_line.proofs.Common.{slice_get-append, slice_get-set, with_master-cases}
use Rattle.hart_line.proofs.lemmas.world.Steps.{StepCases, Submits, Sends, Stays, along, step_cases}

-- EVENT BY EVENT
pub record IsHeld (submissions : List Submission) (outcomes : List Outcome) (id : MasterId) (held : InHand) : Type 0 where
  pub submitted_as : slice_get submissions held.submission ≡ Some (submission_in id held)
  pub unfinished : slice_get outcomes held.submission ≡ Some (Unfinished held.sendings)

-- There is an outcome for each submission so far.
record IsAlong (submissions : List Submission) (world : World) : Type 0 where
  long : length submissions ≡ length world.outcomes
  hands : (id : MasterId) (held : InHand) → of_master id world.hands ≡ Some held → IsHeld submissions world.outcomes id held

-- A request that stays in hand after a turn is unfinished, and only its sendings change. Any other request does not change.
held_more : (submissions more : List Submission) (start : Start) (world next : World) (id : MasterId) (held : InHand)
    → StepCases start world next more → IsAlong submissions world → of_master id next.hands ≡ Some held
    → IsHeld (submissions ++ more) next.outcomes id held
held_more submissions more start world next id held (Submits said fault are is) a own =
    let old = a.hands id held in grind (arith, common_steps, slice_get-append, slice_get_past, with_master-cases)
held_more submissions more start world next id held (Sends who brought accepted are s) a own =
    let sent = a.hands who s.held s.in_hand in let old = a.hands id held in
    grind (arith, common_steps, append-nil, slice_set, nat_tests, slice_get-set, same_Some, with_master-cases)
held_more submissions more start world next id held (Stays protected cold_start spoken are is) a own =
    let old = a.hands id held in grind (arith, common_steps, append-nil)

submissions_of-append : (prefix suffix : List LineEvent)
    → submissions_of (prefix ++ suffix) ≡ submissions_of prefix ++ submissions_of suffix
submissions_of-append [] suffix = refl
submissions_of-append (event ∷ prefix) suffix = grind (arith, submissions_of-append prefix suffix)

-- EVERY STEP
pub held_in : (start : Start) (events : List LineEvent) {before next : World} {event : LineEvent}
    (here : IsStepOf start (first_world start) events before event next) (who : MasterId) (held : InHand)
    → of_master who before.hands ≡ Some held → IsHeld (submissions_of events) before.outcomes who held
held_in start events {before = before} here who held in_hand =
    let so_far = along start (first_world start) here.prefix (λ es. IsAlong (submissions_of es)) (λ before next event here a.
    let cases = step_cases start before event next here.step in rw submissions_of-append (record {
      long = grind (arith, common_steps, append-nil);
      hands = λ id held own. held_more _ _ start before next id held cases a own;
    })) (record { long = refl; hands = λ id held is. grind arith }) before here.led in
    let there = so_far.hands who held in_hand in grind (arith, common_steps, submissions_of-append, slice_get-append)

-- The request of a submission stands at its number among the requests.
pub request_there : (events : List LineEvent) (number : ℕ) (submission : Submission)
    → slice_get (submissions_of events) number ≡ Some submission → slice_get (requests_of events) number ≡ Some submission.request
request_there events number submission there = grind (arith, common_steps, slice_get-map)

-- A request that was submitted is well made.
pub made_of : (events : List LineEvent) (number : ℕ) (submission : Submission) → AreWellMade events
    → slice_get (submissions_of events) number ≡ Some submission → IsRequest submission.request
made_of events number submission made there =
    let request = request_there events number submission there in
    rw (← get_or_from_slice_get (requests_of events) number submission.request submission.request request)
    (made number submission.request (slice_get_within (requests_of events) number submission.request request))

-- If the first `n` events are well made and the next event is too, then the first `n + 1` events are well made.
pub made_more : (events : List LineEvent) (n : ℕ) (unused : LineEvent) → n < length events → AreWellMade (take n events)
    → AreWellMade (get_or events n unused ∷ []) → AreWellMade (take (n + 1) events)
made_more events n unused here made one =
    rw (take_more events n unused here, submissions_of-append, map-append)
    (All-append IsRequest (requests_of (take n events)) (requests_of (get_or events n unused ∷ [])) made one)

-- HOW OFTEN
-- An effect adds at most one execution, and this execution is of the submission that was sent.
times_executed-more : (effect : Effect) (own number : ℕ) (executions : List Execution)
    → times_executed number (executions_after effect own executions) ≤ times_executed number executions + (if own == number then 1 else 0)
times_executed-more effect own number executions = grind (arith, nat_tests, sum_by-append)

counts_by : (hand : InHand) (outcomes : List Outcome) (outcome : Outcome) (number before after : ℕ)
    → slice_get outcomes hand.submission ≡ Some (Unfinished hand.sendings) → sendings_in (Some outcome) ≡ hand.sendings + 1
    → before ≤ sendings_in (slice_get outcomes number) → after ≤ before + (if hand.submission == number then 1 else 0)
    → after ≤ sendings_in (slice_get (slice_set outcomes hand.submission outcome) number)
counts_by hand outcomes outcome number before after there sent old more =
    grind (arith, nat_tests, slice_get-set)

-- A submission is executed at most as often as it is sent.
pub executed_at_most : (start : Start) (events : List LineEvent) (last : World) → IsLast start events last → (number : ℕ)
    → times_executed number last.executions ≤ sendings_in (slice_get last.outcomes number)
executed_at_most start events last run number = along start (first_world start) events
    (λ es world. times_executed number world.executions ≤ sendings_in (slice_get world.outcomes number)) (λ before next event here c.
    elim (step_cases start before event next here.step) [
      | Submits said fault are is ↦ grind (arith, common_steps, slice_get-append)
      | Sends who brought accepted are s ↦ rw s.next_is (counts_by s.held before.outcomes _ number
          (times_executed number before.executions) _ (held_in start events here who s.held s.in_hand).unfinished (grind arith) c
          (times_executed-more (effect_on (state_of start.device before) brought) s.held.submission number before.executions))
      | Stays protected cold_start spoken are is ↦ rw is c
    ]) (omega arith) last run
