use Rattle.hart_line.proofs.lemmas.script.Rows.{texts_have_one_script-no_bad_line, texts_have_one_script-one_bad_line}
use Rattle.hart_line.proofs.lemmas.script.Rows.{texts_have_one_script-one_script}
use Rattle.hart_line.proofs.laws.texts_have_one_script.Goals as goal

pub returns : goal.returns
returns c = assumption (texts_have_one_script-one_script, texts_have_one_script-one_bad_line, texts_have_one_script-no_bad_line)
