use Rattle.std.proofs.Common.{All, take}
use Rattle.hart_device.specs.Process.{IsFloat}
use Rattle.hart_device.proofs.laws.processes_are_well_made.Given as goal

abbrev pub invariant-loop-variable : goal.invariant-loop-variable
invariant-loop-variable l = All (λ variable. IsFloat variable.value) (take l.variable-index l.process.others)
