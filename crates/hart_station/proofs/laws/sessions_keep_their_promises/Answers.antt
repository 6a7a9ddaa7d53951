use Rattle.hart_station.proofs.lemmas.Promise.{keeps_promises}
use Rattle.hart_station.proofs.laws.sessions_keep_their_promises.Goals as goal

pub returns : goal.returns
returns c = keeps_promises
