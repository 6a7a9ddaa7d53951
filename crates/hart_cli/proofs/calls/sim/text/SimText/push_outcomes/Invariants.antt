use Rattle.std.proofs.Common.{◌≡◌, ◌++◌, take}
use Rattle.std.specs.List.{enumerate_from, flat_map}
use Rattle.hart_cli.specs.sim.Text.{outcome_line}
use Rattle.hart_cli.proofs.calls.sim.text.SimText.push_outcomes.Given as goal

abbrev pub invariant-loop-index : goal.invariant-loop-index
invariant-loop-index l = l.self.text.items
    ≡ l.initial.self.text.items ++ flat_map outcome_line (enumerate_from 1 (take l.index l.outcomes))
