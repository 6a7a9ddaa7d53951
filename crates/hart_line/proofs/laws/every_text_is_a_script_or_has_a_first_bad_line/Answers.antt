use Rattle.hart_line.proofs.lemmas.script.Decided.{every_text_is_a_script_or_has_a_first_bad_line}
use Rattle.hart_line.proofs.laws.every_text_is_a_script_or_has_a_first_bad_line.Goals as goal

pub returns : goal.returns
returns c = every_text_is_a_script_or_has_a_first_bad_line
