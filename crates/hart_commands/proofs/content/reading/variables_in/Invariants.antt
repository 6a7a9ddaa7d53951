use Rattle.std.proofs.Common.{◌≡◌, map, take}
use Rattle.hart_commands.specs.Values.{variable_of}
use Rattle.hart_commands.proofs.content.reading.variables_in.Given as goal

abbrev pub invariant-loop-group : goal.invariant-loop-group
invariant-loop-group l = l.variables ≡ map variable_of (take l.group-index l.groups)
