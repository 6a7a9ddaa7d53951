use Rattle.std.proofs.Common.{◌≡◌, length, map, take}
use Rattle.hart_device.specs.answer.Variables.{variable_reading}
use Rattle.hart_device.proofs.answer.variables.variable_readings.Given as goal

abbrev pub invariant-loop-code : goal.invariant-loop-code
invariant-loop-code l = record {
  so_far : l.readings ≡ map (variable_reading l.process) (take l.code-index l.code-items);
  room : length l.readings ≡ l.code-index;
}
