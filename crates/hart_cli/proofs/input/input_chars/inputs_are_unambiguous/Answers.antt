use Rattle.hart_cli.proofs.lemmas.input.InputChars.{one_input}
use Rattle.hart_cli.proofs.input.input_chars.inputs_are_unambiguous.Goals as goal

pub returns : goal.returns
returns c = one_input
