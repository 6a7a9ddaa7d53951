use Rattle.std.proofs.Common.{◌≡◌, ◌+◌, ◌∷◌, length, map, take}
use Rattle.hart_device.specs.answer.Content.{unit_value}
use Rattle.hart_device.proofs.answer.process_content.unit_values.Given as goal

abbrev pub invariant-loop-variable : goal.invariant-loop-variable
invariant-loop-variable l = record {
  so_far : l.values ≡ unit_value l.process.first ∷ map unit_value (take l.variable-index l.variable-items);
  room : length l.values ≡ 1 + l.variable-index;
}
