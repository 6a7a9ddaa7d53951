-- What `hart sim` writes for its input (implementation choice).
use Rattle.std.specs.Prelude.{◌≡◌, ◌⊎◌, ◌<◌, ℕ, List, Option}
use Rattle.hart_device.specs.Bench.{bench_process}
use Rattle.hart_device.specs.Device.{DeviceState}
use Rattle.hart_line.specs.world.Faults.{IsFault}
use Rattle.hart_line.specs.world.Step.{Led}
use Rattle.hart_line.specs.world.Needs.{IsNeededForOutcomes}
use Rattle.hart_line.specs.world.Noted.{IsNeededByNoting}
use Rattle.hart_line.specs.script.Rows.{HasFirstBadLine, IsNeededByText, IsScript}
use Rattle.hart_line.specs.world.World.{Start}
use Rattle.hart_line.specs.declared.event.LineEvent.{LineEvent}
use Rattle.hart_line.specs.declared.fault.LineFault.{LineFault}
use Rattle.hart_line.specs.declared.fault.LineFault.TheVariants as line_faults
use Rattle.hart_line.specs.declared.line.report.Outcome.{Outcome}
use Rattle.hart_line.specs.declared.line.report.Spoken.{Spoken}
use Rattle.hart_cli.specs.declared.fault.CliFault.{CliFault}
use Rattle.hart_cli.specs.declared.fault.CliFault.TheVariants.{Line, Memory}
use Rattle.hart_cli.specs.ImageWord.{OutcomeWith, OutcomeRelation}
use Rattle.hart_cli.specs.sim.Text.{IsNeededByDevice, IsNeededByFrame, IsNeededByOutcomes, sim_text}
use Rattle.hart_cli.specs.input.WholeInput.{WholeOutcome}

-- The start of a script: a device, the process values of the bench device, and two masters. Each master has no request, and sends a request
-- again at most three times.
abbrev pub start_with : DeviceState → Start
start_with device = record {
  device = device;
  process = bench_process;
  retries = record { primary = 3; secondary = 3 };
}

-- The text for an input: the frames that were spoken in its script, the outcome of each submission, and the device's counter and image at
-- the end of the script.
pub record IsSimulation (device : DeviceState) (input text : List ℕ) : Type 0 where
  pub events : List LineEvent
  pub script : IsScript input events
  pub after : DeviceState
  pub outcomes : List Outcome
  pub spoken : List Spoken
  pub led : Led (start_with device) events after outcomes spoken
  pub gives : text ≡ sim_text spoken outcomes after

-- An input is a script whose events lead to this fault.
pub record IsScriptWithFault (device : DeviceState) (input : List ℕ) (fault : LineFault) : Type 0 where
  pub events : List LineEvent
  pub script : IsScript input events
  pub is_fault : IsFault (start_with device) events fault

-- The fault of an input is its first bad line or, if no line is bad, the first leg with undetected damage. Refused memory is no
-- fault of an input.
abbrev pub HasLineFault : DeviceState → List ℕ → LineFault → Type 0
HasLineFault device input (line_faults.BadLine number) = HasFirstBadLine input number
HasLineFault device input (line_faults.Undetected number leg) = IsScriptWithFault device input (line_faults.Undetected number leg)
HasLineFault device input (line_faults.Memory none) = ⊥

-- Memory for this number of bytes is needed at the end of a script: for the line of one submission, or for the last two lines together. The
-- number is at least 1.
pub record IsNeededByLastLines (start : Start) (events : List LineEvent) (items : ℕ) : Type 0 where
  pub after : DeviceState
  pub outcomes : List Outcome
  pub spoken : List Spoken
  pub led : Led start events after outcomes spoken
  pub needed : IsNeededByOutcomes outcomes items ⊎ IsNeededByDevice after items
  pub some : 0 < items

-- An input needs memory for this number of bytes or other elements: to be read as a script, to have its events carried out, for the line of
-- a spoken frame, or for a line after the spoken frames.
abbrev pub IsNeededForSimulation : DeviceState → List ℕ → ℕ → Type 0
IsNeededForSimulation device input items =
    IsNeededByText input items
    ⊎ ((events : List LineEvent) × IsScript input events
    × (IsNeededForOutcomes events items
    ⊎ IsNeededByNoting IsNeededByFrame (start_with device) events items
    ⊎ IsNeededByLastLines (start_with device) events items))

-- The faults of `simulate` after it has read an input. Either the input has this fault in its lines or events. Or memory was refused for a
-- number of elements that the input needs.
abbrev pub IsSimulationFault : DeviceState → List ℕ → CliFault → Type 0
IsSimulationFault device input (Line fault) = HasLineFault device input fault
IsSimulationFault device input (Memory none) = IsNeededForSimulation device input none.items
IsSimulationFault device input _ = ⊥

-- If no device could be made from the image, a call of `simulate` returned the reason. Otherwise, at `Ok`, it wrote the text for its whole
-- input. If a write failed, it wrote a prefix of that text. It wrote nothing if a read failed, if the input was too long or had a fault in
-- its lines or events, or if memory was refused. It returns no other fault.
abbrev pub SimOutcome : Option (List ℕ) → OutcomeRelation
SimOutcome = OutcomeWith (λ device. WholeOutcome (IsSimulation device) (IsSimulationFault device))
