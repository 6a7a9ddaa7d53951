use Rattle.std.proofs.Common.{◌≡◌, ◌∷◌, take}
use Rattle.std.specs.List.{flat_map}
use Rattle.serde_json.specs.Written.{compact_text}
use Rattle.hart_explain.specs.Json.{variable_data}
use Rattle.hart_explain.specs.Text.{extended}
use Rattle.hart_explain.proofs.objects.push_further_variables.Given as goal

abbrev pub invariant-loop-variable : goal.invariant-loop-variable
invariant-loop-variable l =
    l.text
    ≡ extended l.initial.text (flat_map (λ variable. 44 ∷ compact_text (variable_data variable)) (take l.variable-index l.variables))
