use Rattle.std.proofs.Common.{◌≡◌, ◌++◌, codes, length}
use Rattle.std.specs.List.{flat_map}
use Rattle.hart_explain.specs.Text.{extended}
use Rattle.hart_explain.proofs.words.status.push_further_names.Given as goal

abbrev pub invariant-loop-name : goal.invariant-loop-name
invariant-loop-name l =
    extended l.text (flat_map (λ name. codes ", " ++ name) l.names)
    ≡ extended l.initial.text (flat_map (λ name. codes ", " ++ name) l.fn.names)

abbrev pub decreases-loop-name : goal.decreases-loop-name
decreases-loop-name l = length l.names
