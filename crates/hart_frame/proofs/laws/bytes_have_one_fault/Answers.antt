use Rattle.hart_frame.proofs.lemmas.wire.Refusal.{not_refused}
use Rattle.hart_frame.proofs.laws.bytes_have_one_fault.Goals as goal

pub returns-clause-not_both : goal.returns-clause-not_both
returns-clause-not_both c = not_refused
