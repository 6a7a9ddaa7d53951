use Rattle.hart_listen.proofs.lemmas.Laws.{tellers_are_told_what_is_heard}
use Rattle.hart_listen.proofs.laws.tellers_are_told_what_is_heard.Goals as goal

pub returns : goal.returns
returns g c = tellers_are_told_what_is_heard g.T.Teller.told
