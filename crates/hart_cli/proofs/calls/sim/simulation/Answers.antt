use Rattle.std.proofs.Common.{◌≡◌, ◌<◌, ◌⊎◌, List, ℕ, arith, inl, inr}
use Rattle.std.proofs.lemmas.Result.{err_from_is_err_and}
use Rattle.std.specs.List.{flat_map}
use Rattle.hart_device.specs.Device.{DeviceState}
use Rattle.hart_line.specs.declared.event.LineEvent.{LineEvent}
use Rattle.hart_line.specs.declared.fault.LineFault.{LineFault}
use Rattle.hart_line.specs.declared.fault.LineFault.TheVariants.{BadLine, Memory, Undetected}
use Rattle.hart_line.specs.declared.line.report.Outcome.{Outcome}
use Rattle.hart_line.specs.declared.line.report.Spoken.{Spoken}
use Rattle.hart_line.specs.script.Rows.{IsScript}
use Rattle.hart_line.specs.world.Step.{Led}
use Rattle.hart_line.specs.world.Noted.{IsLoggedFault}
use Rattle.hart_line.specs.world.World.{Start}
use Rattle.hart_cli.specs.FaultText.{call_fault}
use Rattle.hart_cli.specs.sim.Sim.{IsNeededForSimulation, IsSimulationFault, start_with}
use Rattle.hart_cli.specs.sim.Text.{IsNeededByDevice, IsNeededByFrame, IsNeededByOutcomes, spoken_line}
use Rattle.hart_cli.proofs.calls.sim.simulation.Goals.{After-push_outcomes}
use Rattle.hart_cli.proofs.calls.sim.simulation.Goals as goal

-- the fault of a script is the fault of its input
logged_fault : (device : DeviceState) (input : List ℕ) (start : Start) (AreNoted : List Spoken → Type 0) (events : List LineEvent)
    (fault : LineFault) → IsScript input events → start ≡ start_with device
    → IsLoggedFault IsNeededByFrame AreNoted start events fault
    → IsSimulationFault device input (call_fault fault)
logged_fault device input start AreNoted events (Undetected number leg) script same is =
    record { events = events; script = script; is_fault = rw same at is.0 }
logged_fault device input start AreNoted events (Memory none) script same (inl needed) = inr (events, script, inl needed.0)
logged_fault device input start AreNoted events (Memory none) script same (inr noting) =
    inr (events, script, inr (inl (rw same at noting)))
logged_fault device input start AreNoted events (BadLine number) script same is = absurd is

-- a script was carried out: it led to this device and these outcomes, and its frames were noted as this text
record IsCarriedOut (device : DeviceState) (events : List LineEvent) (noted : List ℕ) (outcomes : List Outcome) (after : DeviceState)
    : Type 0 where
  pub spoken : List Spoken
  pub led : Led (start_with device) events after outcomes spoken
  pub noted_is : noted ≡ flat_map spoken_line spoken

led_with : (device : DeviceState) (start : Start) (events : List LineEvent) (after : DeviceState) (outcomes : List Outcome)
    (spoken : List Spoken) → start ≡ start_with device → Led start events after outcomes spoken
    → Led (start_with device) events after outcomes spoken
led_with device start events after outcomes spoken same led = rw same at led

carried_out : (c : After-push_outcomes) → IsCarriedOut c.args.device c.as_slice.result.now c.run_logged.new.log.text.items
    c.as_slice-2.result.now c.in_ok-ending.ending.device
carried_out c =
    let (spoken, led, noted) = c.in_ok-ending.ensures.led in record {
      spoken = spoken;
      led = rw c.as_slice-2.ensures (led_with c.args.device _ _ _ _ spoken (grind arith) led);
      noted_is = rw c.new-text.ensures at noted;
    }

-- if memory is needed for the last lines of a simulation, the input needs this memory
written : {device : DeviceState} {events : List LineEvent} {noted : List ℕ} {outcomes : List Outcome} {after : DeviceState}
    → (done : IsCarriedOut device events noted outcomes after) → (input : List ℕ) (items : ℕ) → IsScript input events → 0 < items
    → IsNeededByOutcomes outcomes items ⊎ IsNeededByDevice after items
    → IsNeededForSimulation device input items
written done input items script some needed =
    inr (_, script, inr (inr (record { after = _; outcomes = _; spoken = done.spoken; led = done.led; needed = needed; some = some })))

pub returns-clause-text : goal.returns-clause-text
returns-clause-text c =
    let done = carried_out (goal.at.returns-clause-text c).After-push_outcomes in
    let noted = done.noted_is in record {
      events = c.as_slice.result.now;
      script = rw c.as_slice.ensures.value c.in_ok-events.ensures.events;
      after = c.in_ok-ending.ending.device;
      outcomes = c.as_slice-2.result.now;
      spoken = done.spoken;
      led = done.led;
      gives = grind arith;
    }

pub returns-in_err-ending-clause-fault : goal.returns-in_err-ending-clause-fault
returns-in_err-ending-clause-fault c =
    let stop = err_from_is_err_and c.from_residual-in_err-ending.result c.from_residual-in_err-ending.ensures.1 in
    rw (stop.1, stop.2) (logged_fault c.args.device c.args.input.now _ _ c.as_slice.result.now _
    (rw c.as_slice.ensures.value c.in_ok-events.ensures.events) (grind arith) c.in_err-ending.ensures.fault)

pub returns-in_err-push_outcomes-clause-fault : goal.returns-in_err-push_outcomes-clause-fault
returns-in_err-push_outcomes-clause-fault c =
    let done = carried_out (goal.at.returns-in_err-push_outcomes-clause-fault c).After-push_outcomes in
    let stop = err_from_is_err_and c.from_residual-in_err-push_outcomes.result c.from_residual-in_err-push_outcomes.ensures.1 in
    let needed = c.in_err-push_outcomes.ensures.refused in
    rw (stop.1, stop.2)
    (written done c.args.input.now _ (rw c.as_slice.ensures.value c.in_ok-events.ensures.events) needed.0 (inl needed.1))

pub returns-in_err-finish-clause-fault : goal.returns-in_err-finish-clause-fault
returns-in_err-finish-clause-fault c =
    let done = carried_out (goal.at.returns-in_err-finish-clause-fault c).After-push_outcomes in
    let stop = err_from_is_err_and c.from_residual-in_err-finish.result c.from_residual-in_err-finish.ensures.1 in
    let needed = c.in_err-finish.ensures.refused in
    rw (stop.1, stop.2)
    (written done c.args.input.now _ (rw c.as_slice.ensures.value c.in_ok-events.ensures.events) needed.0 (inr needed.1))
