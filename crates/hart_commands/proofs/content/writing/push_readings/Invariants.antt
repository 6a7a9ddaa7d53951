use Rattle.std.proofs.Common.{◌≡◌, ◌+◌, ◌*◌, ◌++◌, length, take}
use Rattle.std.specs.List.{flat_map}
use Rattle.hart_commands.specs.Values.{variable_bytes}
use Rattle.hart_commands.proofs.content.writing.push_readings.Given as goal

abbrev pub invariant-loop-variable : goal.invariant-loop-variable
invariant-loop-variable l = record {
  pushed : l.payload ≡ l.initial.payload ++ flat_map variable_bytes (take l.variable-index l.variables);
  room : length l.payload ≡ length l.initial.payload + 8 * l.variable-index;
}
