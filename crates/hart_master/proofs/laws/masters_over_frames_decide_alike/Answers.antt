use Rattle.hart_master.proofs.lemmas.Alike.{received_alike}
use Rattle.hart_master.proofs.laws.masters_over_frames_decide_alike.Goals as goal

pub returns-clause-received : goal.returns-clause-received
returns-clause-received c = received_alike
