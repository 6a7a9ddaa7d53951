use Rattle.hart_line.proofs.lemmas.script.Items.{words_have_one_value-items}
use Rattle.hart_line.proofs.laws.words_have_one_value.Goals as goal

pub returns-clause-items : goal.returns-clause-items
returns-clause-items c = words_have_one_value-items
