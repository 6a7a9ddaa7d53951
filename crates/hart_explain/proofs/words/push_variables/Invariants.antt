use Rattle.std.proofs.Common.{◌≡◌, ◌++◌, codes, take}
use Rattle.std.specs.List.{flat_map}
use Rattle.hart_explain.specs.Text.{extended}
use Rattle.hart_explain.specs.Words.{variable_words}
use Rattle.hart_explain.proofs.words.push_variables.Given as goal

abbrev pub invariant-loop-variable : goal.invariant-loop-variable
invariant-loop-variable l =
    l.text ≡ extended l.initial.text (flat_map (λ variable. codes "; " ++ variable_words variable) (take l.variable-index l.others))
