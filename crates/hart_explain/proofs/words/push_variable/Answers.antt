use Rattle.hart_explain.specs.Words.{variable_words}
use Rattle.hart_explain.proofs.lemmas.Extended.{also}
use Rattle.hart_explain.proofs.words.push_variable.Goals as goal

pub returns : goal.returns
unfolding variable_words
returns c =
    let code = also _ _ _ _ _ c.push_text.ensures (rw c.from.ensures at c.push_number.ensures.number) in
    let more = also _ _ _ _ _ (also _ _ _ _ _ code c.push_text-2.ensures) (rw c.from-2.ensures at c.push_number-2.ensures.number) in
    let unit = also _ _ _ _ _ (also _ _ _ _ _ more c.push_text-3.ensures) c.push_unit.ensures in
    let value = also _ _ _ _ _ (also _ _ _ _ _ unit c.push_text-4.ensures) c.push_hex_value.ensures in
    also _ _ _ _ _ (also _ _ _ _ _ value c.push_text-5.ensures) c.push_hex_value-2.ensures
