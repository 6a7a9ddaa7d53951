use Rattle.hart_master.proofs.lemmas.Laws.{acceptance_decided}
use Rattle.hart_master.proofs.laws.acceptance_is_decided.Goals as goal

pub returns-clause-decided : goal.returns-clause-decided
returns-clause-decided c = acceptance_decided
