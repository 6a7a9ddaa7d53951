use Rattle.hart_frame.proofs.lemmas.scan.SightingLaws.{all, grown, onward, rest_all}
use Rattle.hart_frame.proofs.scan.sighting.next_sightings_are_all.Goals as goal

pub returns : goal.returns
returns c = record { onward = onward; grown = grown; rest = rest_all; all = all }
