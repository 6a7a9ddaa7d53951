use Rattle.std.proofs.Common.{◌≡◌, ◌+◌, ◌*◌, ◌++◌, length, take}
use Rattle.std.specs.List.{flat_map}
use Rattle.hart_commands.specs.Values.{unit_value_bytes}
use Rattle.hart_commands.proofs.content.writing.push_values.Given as goal

abbrev pub invariant-loop-value : goal.invariant-loop-value
invariant-loop-value l = record {
  pushed : l.payload ≡ l.initial.payload ++ flat_map unit_value_bytes (take l.value-index l.values);
  room : length l.payload ≡ length l.initial.payload + 5 * l.value-index;
}
