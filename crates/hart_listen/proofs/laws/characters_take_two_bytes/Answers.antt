use Rattle.hart_listen.proofs.lemmas.Laws.{characters_take_two_bytes}
use Rattle.hart_listen.proofs.laws.characters_take_two_bytes.Goals as goal

pub returns : goal.returns
returns c = characters_take_two_bytes
