use Rattle.std.proofs.Common.{◌≡◌, ◌∷◌, length}
use Rattle.std.specs.List.{flat_map}
use Rattle.json.specs.Print.{quoted}
use Rattle.hart_explain.specs.Text.{extended}
use Rattle.hart_explain.proofs.objects.status.push_further_names.Given as goal

abbrev pub invariant-loop-name : goal.invariant-loop-name
invariant-loop-name l =
    extended l.text (flat_map (λ name. 44 ∷ quoted name) l.names)
    ≡ extended l.initial.text (flat_map (λ name. 44 ∷ quoted name) l.fn.names)

abbrev pub decreases-loop-name : goal.decreases-loop-name
decreases-loop-name l = length l.names
