use Rattle.hart_master.proofs.lemmas.Laws.{replies_are_decided-decided}
use Rattle.hart_master.proofs.laws.replies_are_decided.Goals as goal

pub returns-clause-decided : goal.returns-clause-decided
returns-clause-decided c = replies_are_decided-decided
