-- The laws of scripts and of their worlds, for the proofs of this crate and of the crates above it.
use Rattle.hart_line.proofs.Common.{DeviceState, Outcome, Spoken, Led, arith, length, take, refl, ◌≡◌, ◌<◌, ◌^◌, ℕ, List, mod-eq_of_lt}
use Rattle.hart_line.proofs.Common.{common_steps, take_all, LineEvent, Leg, Undetected, IsFault, AreWellMade, IsWellMadeStart, IsLast}
use Rattle.hart_line.proofs.Common.{Start, World, first_world, state_of}
use Rattle.std.proofs.lemmas.Option.{slice_get_within}
use Rattle.hart_device.proofs.lemmas.Laws.{registers_of_lists-none}
use Rattle.hart_line.specs.world.Kept.{KeepsPromises}
use Rattle.hart_line.proofs.lemmas.world.Answered.{answered_last}
use Rattle.hart_line.proofs.lemmas.world.Leads.{fault_before, leads_one, undetected_one}
use Rattle.hart_line.proofs.lemmas.world.Reset.{refused_last, refused_step, unseen}
use Rattle.hart_line.proofs.lemmas.world.Submitted.{executed_at_most}
use Rattle.hart_line.proofs.lemmas.world.Written.{answered_executed, registers_last, step_stays, turn_executed}
use Rattle.hart_line.proofs.lemmas.world.Steps.{same_state}
pub use Rattle.hart_line.proofs.lemmas.script.Items.{words_have_one_value-items}
pub use Rattle.hart_line.proofs.lemmas.script.Rows.{texts_have_one_script-no_bad_line, texts_have_one_script-one_bad_line}
pub use Rattle.hart_line.proofs.lemmas.script.Rows.{texts_have_one_script-one_script}
pub use Rattle.hart_line.proofs.lemmas.world.Leads.{fault_not_detectable as scripts_keep_their_promises-detected}

pub scripts_have_one_last_world-one_world : (start : Start) (events : List LineEvent) (a b : World)
    → IsLast start events a → IsLast start events b → a ≡ b
scripts_have_one_last_world-one_world start events = leads_one start events (first_world start)

pub scripts_have_one_last_world-no_fault : (start : Start) (events : List LineEvent) (world : World) (number : ℕ) (leg : Leg)
    → IsLast start events world → IsFault start events (Undetected number leg) → ⊥
scripts_have_one_last_world-no_fault start events world number leg run f =
    let within = slice_get_within events number f.1 f.3 in
    fault_before start events number (length events) leg world within f (rw (take_all (length events) events (omega arith)) run)

same_leg : (start : Start) (events : List LineEvent) (number : ℕ) (leg another : Leg)
    → IsFault start events (Undetected number leg) → IsFault start events (Undetected number another) → leg ≡ another
same_leg start events number leg another f g =
    let same = leads_one start (take number events) (first_world start) f.0 g.0 f.2 g.2 in
    let same_event : f.1 ≡ g.1 = cc in
    undetected_one start g.0 g.1 leg another (rw (same, same_event) at f.4) g.4

pub scripts_have_one_last_world-one_fault : (start : Start) (events : List LineEvent) (number other : ℕ) (leg another : Leg)
    → IsFault start events (Undetected number leg) → IsFault start events (Undetected other another) → (number ≡ other) × (leg ≡ another)
scripts_have_one_last_world-one_fault start events number other leg another f g =
    let below = λ (h : number < other). fault_before start events number other leg g.0 h f g.2 in
    let above = λ (h : other < number). fault_before start events other number another f.0 h g f.2 in
    let same : number ≡ other = grind arith in
    (same, same_leg start events other leg another (rw same at f) g)

pub scripts_keep_their_promises-first_world : (start : Start) → start.device.counter < 2 ^ 16
    → state_of start.device (first_world start) ≡ start.device
scripts_keep_their_promises-first_world start small = grind (arith, common_steps, same_state, registers_of_lists-none, mod-eq_of_lt)

pub scripts_keep_their_promises-kept : (start : Start) (events : List LineEvent) (world : World)
    → IsWellMadeStart start → AreWellMade events → IsLast start events world
    → KeepsPromises start events (state_of start.device world) world.outcomes
scripts_keep_their_promises-kept start events here made well_made led =
    let answered = answered_last start events made here led in
    record {
      well_made = well_made;
      accepted_reply_answers_last_sending = answered;
      registers_follow_last_executions = λ world last. rw (leads_one start events (first_world start) world here last led)
          (registers_last start events here led well_made);
      counter_counts_executions = λ world last. rw (leads_one start events (first_world start) world here last led) refl;
      refused_commands_change_nothing = refused_last start events here led;
      refused_turns_change_nothing = refused_step start events;
      unrefused_writes_are_executed = turn_executed start events well_made;
      nothing_else_is_executed = step_stays start events;
      executed_in_its_turn = λ number request reply sendings submitted write is.
          answered_executed start events well_made number request reply sendings (answered number reply sendings is) submitted write;
      at_most_once_a_sending = λ world last. rw (leads_one start events (first_world start) world here last led)
          (executed_at_most start events here led);
      no_change_unseen = unseen start events here led;
    }

-- If a script has led to this device and these outcomes, they keep the promises of the script.
pub led_keeps : (start : Start) (events : List LineEvent) (device : DeviceState) (outcomes : List Outcome) (spoken : List Spoken)
    → IsWellMadeStart start → AreWellMade events → Led start events device outcomes spoken → KeepsPromises start events device outcomes
led_keeps start events device outcomes spoken made well_made led =
    rw (led.device_is, led.outcomes_are) (scripts_keep_their_promises-kept start events led.world made well_made led.last)
