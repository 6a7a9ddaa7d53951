-- What holds since a master's last reset, and after a refused command.
use Rattle.hart_line.proofs.Common.{◌≤◌, ◌≡◌, ◌≢◌, ℕ, refl, arith, Option, IfSome, Ok, false, List, [], ◌∷◌, ◌++◌, length, ◌⊎◌, inl, inr}
use Rattle.hart_line.proofs.Common.{nat_tests, common_steps, of_master, EachMaster, MasterId, FrameParts, DeviceState, Effect, Nothing}
use Rattle.hart_line.proofs.Common.{Bool, if◌then◌else◌, with_master, after_reply}
use Rattle.hart_line.proofs.Common.{Resets, after_refusal, code_of, effect_of, is_answered, reading_of, LineEvent, Turn, append_assoc}
use Rattle.hart_line.proofs.Common.{brought_in_step, IsStepOf, IsLast, LeadsTo, effect_on, executions_after, marks_after, Execution, Start}
use Rattle.hart_line.proofs.Common.{World, first_world, state_of, HasNoReset, IsLastReset, IsRefusedByDevice}
use Rattle.hart_device.proofs.lemmas.Laws.{refused_commands_change_nothing-refused, refused_commands_change_nothing-silent}
use Rattle.hart_device.proofs.lemmas.Laws.{resets_name_this_counter-only}
use Rattle.hart_commands.specs.declared.request.Request.TheVariants.{ResetChanged}
use Rattle.hart_line.proofs.lemmas.world.Leads.{leads_on}
use Rattle.hart_line.proofs.lemmas.world.Steps.{along, entered, leads_more, master_in, turn_cases}

-- A RESET
-- Executions are added, but never removed. A master's mark stays the same as long as no turn of this master resets it.
record IsSince (id : MasterId) (world : World) (executions : List Execution) (marks : EachMaster (Option ℕ)) : Type 0 where
  mark : of_master id marks ≡ of_master id world.marks
  few : length executions ≤ length world.executions → executions ≡ world.executions

effect_since : (effect : Effect) (id who : MasterId) (number : ℕ) (world : World) {now new : List Execution}
    {old marks : EachMaster (Option ℕ)} → (id ≡ who → effect ≢ Resets) → new ≡ executions_after effect number now
    → marks ≡ marks_after effect who (length now) old → IsSince id world now old → IsSince id world new marks
effect_since effect id who number world quiet executions marked since = grind (arith, common_steps)

since_reset : (start : Start) (events : List LineEvent) (world last : World) (id : MasterId) → LeadsTo start world events last
    → HasNoReset start world events id → IsSince id world last.executions last.marks
since_reset start events world last id run none =
    along start world events (λ es now. IsSince id world now.executions now.marks) (λ before next event here.
    let (number, executions, marks) = entered start before event next here.step in
    effect_since _ id (master_in event) number world (quiet before next event here) executions marks)
    (record { mark = refl; few = λ few. refl }) last run
  where
    quiet : (before next : World) (event : LineEvent) (here : IsStepOf start world events before event next) → id ≡ master_in event
        → effect_on (state_of start.device before) (brought_in_step start before event next here.step) ≢ Resets
    quiet before next (Turn who up down) here own = (rw own at (none before next up down)) here
    quiet before next event here own = λ resets. cc

given_one : (state : DeviceState) (frame : FrameParts) (given : Option ℕ) (counter : ℕ) → reading_of frame ≡ Ok (ResetChanged given)
    → effect_of state frame ≡ Resets → counter ≡ state.counter → IfSome given (λ n. counter ≡ n)
given_one state frame given counter is resets same = grind (arith, resets_name_this_counter-only)

-- From the world after a step of a script, the events after this step lead to the script's last world.
after_step : (start : Start) (events : List LineEvent) (last : World) → IsLast start events last → (before next : World) (event : LineEvent)
    (here : IsStepOf start (first_world start) events before event next) → LeadsTo start next here.suffix last
after_step start events last run before next event here =
    leads_on start (here.prefix ++ event ∷ []) here.suffix (first_world start) next last (grind (arith, common_steps, append_assoc))
    (leads_more start here.prefix event (first_world start) before next here.led here.step)

-- If the master's configuration-changed bit is clear, nothing was executed since the master's last reset.
pub unseen : (start : Start) (events : List LineEvent) (last : World) → IsLast start events last
    → (who : MasterId) (before : World) (given : Option ℕ) → IsLastReset start events who before given
    → of_master who (state_of start.device last).changed ≡ false → IfSome given (λ counter. (state_of start.device last).counter ≡ counter)
    × ((state_of start.device last).counter ≡ (state_of start.device before).counter)
    × ((state_of start.device last).contents ≡ (state_of start.device before).contents)
unseen start events last run who before given r clear =
    let e = entered start before (Turn who r.up r.down) r.next r.turn.step in
    let resets : effect_on (state_of start.device before) r.turn.step.brought ≡ Resets = grind (arith, common_steps) in
    let since = since_reset start r.turn.suffix r.next last who (after_step start events last run before r.next _ r.turn) r.last in
    let same : last.executions ≡ before.executions = grind (arith, nat_tests) in
    rw same (given_one (state_of start.device before) r.frame given _ r.reading r.resets refl, refl, refl)

-- A REFUSED COMMAND
-- A command that is refused or not answered has no effect.
refused_effect : (state : DeviceState) (frame : FrameParts) → (code_of state frame ≢ 0) ⊎ (is_answered state frame ≡ false)
    → effect_of state frame ≡ Nothing
refused_effect state frame refused = grind (arith, refused_commands_change_nothing-refused, refused_commands_change_nothing-silent)

-- A reply changes only the cold start bit of its master.
refusal_leaves : (answered : Bool) (id : MasterId) (state : DeviceState) → (if answered then after_reply id state else state)
    ≡ record state { cold_start = if answered then with_master id false state.cold_start else state.cold_start }
refusal_leaves answered id state = grind arith

pub refused_step : (start : Start) (events : List LineEvent) (before next : World) (r : IsRefusedByDevice start events before next)
    → state_of start.device next ≡ after_refusal (state_of start.device before) r.frame
refused_step start events before next r = elim (turn_cases start before r.who r.up r.down next r.turn.step) [
  | inl s ↦
      let device = state_of start.device before in
      rw (s.next_is, r.brought, refused_effect device r.frame r.refused, refusal_leaves (is_answered device r.frame) r.frame.master device)
      (grind (arith, common_steps))
  | inr silent ↦ grind arith
]

pub refused_last : (start : Start) (events : List LineEvent) (last : World) → IsLast start events last → (before next : World)
    (r : IsRefusedByDevice start events before next) → r.turn.suffix ≡ []
    → state_of start.device last ≡ after_refusal (state_of start.device before) r.frame
refused_last start events last run before next r end =
    rw (rw end at (after_step start events last run before next _ r.turn)) (refused_step start events before next r)
