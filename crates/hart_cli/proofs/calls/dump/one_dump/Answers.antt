use Rattle.std.proofs.Common.{arith}
use Rattle.hart_frame.proofs.lemmas.Laws.{frames_are_unambiguous-one_list}
use Rattle.hart_cli.proofs.lemmas.input.InputChars.{one_input}
use Rattle.hart_cli.proofs.calls.dump.one_dump.Goals as goal

pub returns : goal.returns
returns c = λ input ending f g xs ys p q. grind (arith, one_input, frames_are_unambiguous-one_list)
