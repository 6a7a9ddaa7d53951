use Rattle.hart_listen.proofs.lemmas.Laws.{characters_are_one_stretch-sightings, characters_are_one_stretch-undated}
use Rattle.hart_listen.proofs.laws.characters_are_one_stretch.Goals as goal

pub returns-clause-sightings : goal.returns-clause-sightings
returns-clause-sightings c = characters_are_one_stretch-sightings

pub returns-clause-undated : goal.returns-clause-undated
returns-clause-undated c = characters_are_one_stretch-undated
