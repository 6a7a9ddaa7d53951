use Rattle.hart_listen.proofs.lemmas.Laws.{heard_sightings_are_unambiguous-one}
use Rattle.hart_listen.proofs.lemmas.Laws.{heard_sightings_are_unambiguous-some}
use Rattle.hart_listen.proofs.lemmas.Laws.{heard_sightings_are_unambiguous-decided}
use Rattle.hart_listen.proofs.laws.heard_sightings_are_unambiguous.Goals as goal

pub returns-clause-one : goal.returns-clause-one
returns-clause-one c = heard_sightings_are_unambiguous-one

pub returns-clause-some : goal.returns-clause-some
returns-clause-some c = heard_sightings_are_unambiguous-some

pub returns-clause-decided : goal.returns-clause-decided
returns-clause-decided c = heard_sightings_are_unambiguous-decided
