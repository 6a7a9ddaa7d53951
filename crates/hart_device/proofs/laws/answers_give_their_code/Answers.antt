use Rattle.hart_device.proofs.lemmas.Laws.{answers_give_their_code-answered}
use Rattle.hart_device.proofs.lemmas.answer.Effect.{none_if}
use Rattle.hart_device.proofs.laws.answers_give_their_code.Goals as goal

pub returns : goal.returns
returns c = search (answers_give_their_code-answered, none_if)
