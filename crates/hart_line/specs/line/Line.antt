-- The line as one value, and the world that it stands for. Only private calls use these definitions (implementation choice).
use Rattle.std.specs.Prelude.{◌≡◌, ◌++◌, ℕ, List}
use Rattle.hart_line.specs.Types.{DeviceState, Process, LineEvent, Leg, Outcome, Spoken}
use Rattle.hart_line.specs.line.Masters.{AreHeld}
use Rattle.hart_line.specs.world.Faults.{HasUndetected}
use Rattle.hart_line.specs.world.Spoken.{AreSpoken, SpokenFrame}
use Rattle.hart_line.specs.world.Step.{Step}
use Rattle.hart_line.specs.world.World.{MarksWithin, Start, World, state_of}
use Rattle.hart_line.specs.declared.line.masters.Masters.{Masters}

-- A line has a device, its two masters, the outcome of each submission so far, and what was spoken in the last event. It has room for
-- `outcomes_room` outcomes in all, and its device puts `response_preambles` preamble bytes before a reply.
pub record LineState : Type 0 where
  pub device : DeviceState
  pub masters : Masters
  pub outcomes : List Outcome
  pub spoken : List Spoken
  pub outcomes_room : ℕ
  pub response_preambles : ℕ

-- A line stands for a world if both have the same device, masters and outcomes, and the line has the `response_preambles` of the device's
-- identity.
pub record Stands (start : Start) (world : World) (line : LineState) : Type 0 where
  pub device_is : line.device ≡ state_of start.device world
  pub masters_are : AreHeld start.retries world.hands line.masters
  pub outcomes_are : line.outcomes ≡ world.outcomes
  pub preambles_are : line.response_preambles ≡ start.device.identity.response_preambles

-- An event leads from a world to the next world. The line stands for the next world, and its list `spoken` has what was spoken in the
-- event.
pub record Stepped (start : Start) (world : World) (event : LineEvent) (line : LineState) : Type 0 where
  pub next : World
  pub step : Step start world event next
  pub stands : Stands start next line
  pub said : List SpokenFrame
  pub said_is : next.spoken ≡ world.spoken ++ said
  pub spoken_are : AreSpoken said line.spoken

-- From each world that the old line stands for, the event leads to a next world that the new line stands for.
abbrev pub StepsOn : Process → LineEvent → LineState → LineState → Type 0
StepsOn process event old new = (start : Start) (world : World) → start.process ≡ process → MarksWithin world → Stands start world old
    → Stepped start world event new

-- In each world that the line stands for, this leg of the event has undetected damage.
abbrev pub StopsAt : Process → LineEvent → LineState → Leg → Type 0
StopsAt process event line leg = (start : Start) (world : World) → start.process ≡ process → Stands start world line
    → HasUndetected start world event leg
