use Rattle.std.proofs.Common.{◌∷◌}
use Rattle.serde_json.specs.Written.{compact_text}
use Rattle.hart_explain.specs.Json.{variable_data}
use Rattle.hart_explain.proofs.lemmas.Extended.{extended_more, extended_on}
use Rattle.hart_explain.proofs.objects.push_further_variables.Goals as goal

pub loop-variable-preserved : goal.loop-variable-preserved
loop-variable-preserved c =
    rw (c.push_variable.ensures, c.push_text.ensures, c.loop-variable.invariant, extended_on)
    (extended_more (λ variable. 44 ∷ compact_text (variable_data variable)) _ _ c.loop-variable.variable-index _ c.loop-variable-test.true)
