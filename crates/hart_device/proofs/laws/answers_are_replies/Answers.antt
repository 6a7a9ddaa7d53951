use Rattle.hart_device.proofs.lemmas.Laws.{answers_are_replies-read, answers_are_replies-well_made}
use Rattle.hart_device.proofs.laws.answers_are_replies.Goals as goal

pub returns : goal.returns
returns c = record { well_made = answers_are_replies-well_made; read = answers_are_replies-read }
