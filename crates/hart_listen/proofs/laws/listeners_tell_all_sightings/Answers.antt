use Rattle.hart_listen.proofs.lemmas.Laws.{listeners_tell_all_sightings-decided}
use Rattle.hart_listen.proofs.lemmas.Laws.{listeners_tell_all_sightings-all}
use Rattle.hart_listen.proofs.laws.listeners_tell_all_sightings.Goals as goal

pub returns-clause-decided : goal.returns-clause-decided
returns-clause-decided c = listeners_tell_all_sightings-decided

pub returns-clause-all : goal.returns-clause-all
returns-clause-all c = listeners_tell_all_sightings-all
