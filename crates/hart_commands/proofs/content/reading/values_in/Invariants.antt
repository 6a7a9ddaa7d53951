use Rattle.std.proofs.Common.{◌≡◌, map, take}
use Rattle.hart_commands.specs.Values.{unit_value_of}
use Rattle.hart_commands.proofs.content.reading.values_in.Given as goal

abbrev pub invariant-loop-group : goal.invariant-loop-group
invariant-loop-group l = l.values ≡ map unit_value_of (take l.group-index l.groups)
