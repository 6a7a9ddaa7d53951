-- The world of a script (implementation choice): what has happened on the line. The device and the masters do not know the executions and
-- the numbers of submissions.
use Rattle.std.specs.Prelude.{◌≡◌, ℕ, ◌≤◌, ◌+◌, ◌%◌, ◌^◌, ◌||◌, nat_lt, Bool, List, [], length, map, Option, None, Some, ◌==◌, ◌∷◌}
use Rattle.std.specs.Prelude.{count_by, if◌then◌else◌}
use Rattle.hart_line.specs.Types.{Address, EachMaster, MasterId, Overwrite, Request, DeviceState, Process, Outcome}
use Rattle.hart_values.specs.EachMaster.{of_master}
use Rattle.hart_commands.specs.Registers.{registers_of}
use Rattle.hart_line.specs.world.Spoken.{SpokenFrame}
use Rattle.std.specs.List.{list_any}

-- An execution of a configuration write has the number of its submission, counted from 0, and the overwrite that was executed.
pub record Execution : Type 0 where
  pub submission : ℕ
  pub overwrite : Overwrite

-- A request in a master's hand, with the number of its submission, its address, and the number of times that it was sent.
pub record InHand : Type 0 where
  pub submission : ℕ
  pub address : Address
  pub request : Request
  pub sendings : ℕ

-- What has happened so far: the executions (oldest first), each master's mark (if any), and whether the device is protected. Also each
-- master's cold start bit, what each master has in hand, the outcome of each submission, and what was spoken. A master's mark is the number
-- of executions when the master's last Command 38 was executed.
pub record World : Type 0 where
  pub executions : List Execution
  pub marks : EachMaster (Option ℕ)
  pub protected : Bool
  pub cold_start : EachMaster Bool
  pub hands : EachMaster (Option InHand)
  pub outcomes : List Outcome
  pub spoken : List SpokenFrame

-- A script starts with a device, the process values that are passed to the device, and the retry limit of each master.
pub record Start : Type 0 where
  pub device : DeviceState
  pub process : Process
  pub retries : EachMaster ℕ

-- The world before a script: nothing has happened yet, and the protection and the cold start bits are as the device has them.
abbrev pub first_world : Start → World
first_world start = record {
  executions = [];
  marks = record { primary = None; secondary = None };
  protected = start.device.protected;
  cold_start = start.device.cold_start;
  hands = record { primary = None; secondary = None };
  outcomes = [];
  spoken = [];
}

-- The overwrites of executions, in the same order.
abbrev pub overwrites_of : List Execution → List Overwrite
overwrites_of executions = map (λ execution. execution.overwrite) executions

-- Whether a master's configuration-changed bit is set. With a mark, it is set if the mark is less than the number of executions. Without a
-- mark, it is set if it was set initially or if there are executions.
abbrev pub is_changed : Bool → Option ℕ → ℕ → Bool
is_changed initially None count = initially || nat_lt 0 count
is_changed initially (Some mark) count = nat_lt mark count

-- The device in a world. Each register holds the bytes of the newest execution that names this register. A register that no execution names
-- holds its initial bytes. The counter has grown by the number of executions, with 0 after 65535. Each configuration-changed bit is as
-- `is_changed` says for its master's mark. Protection and the cold start bits are those of the world. The identity is unchanged.
abbrev pub state_of : DeviceState → World → DeviceState
state_of initial world = record initial {
  contents = registers_of (overwrites_of world.executions) initial.contents;
  counter = (initial.counter + length world.executions) % 2 ^ 16;
  changed = record {
    primary = is_changed initial.changed.primary world.marks.primary (length world.executions);
    secondary = is_changed initial.changed.secondary world.marks.secondary (length world.executions);
  };
  protected = world.protected;
  cold_start = world.cold_start;
}

-- No mark is greater than the number of executions.
abbrev pub MarksWithin : World → Type 0
MarksWithin world = (id : MasterId) (mark : ℕ) → of_master id world.marks ≡ Some mark → mark ≤ length world.executions

-- In a script's last world, the list of executions has those of all unrefused writes of the script.
-- Whether a list has an execution of this submission.
abbrev pub has_execution_of : ℕ → List Execution → Bool
has_execution_of number executions = list_any (λ execution. execution.submission == number) executions

-- The executions that have no later execution of the same submission, in the same order.
abbrev pub last_executions : List Execution → List Execution
last_executions [] = []
last_executions (execution ∷ later) =
    if has_execution_of execution.submission later then last_executions later else execution ∷ last_executions later

-- How often a submission was executed.
abbrev pub times_executed : ℕ → List Execution → ℕ
times_executed number executions = count_by (λ execution. execution.submission == number) executions
