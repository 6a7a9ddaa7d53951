use Rattle.std.proofs.Common.{◌≡◌, map, take}
use Rattle.hart_c.specs.Numbers.{variable_of}
use Rattle.hart_c.proofs.process.variables_of.Given as goal

abbrev pub invariant-loop-variable : goal.invariant-loop-variable
invariant-loop-variable l = l.variables ≡ map variable_of (take l.variable-index l.given)
