use Rattle.hart_frame.proofs.lemmas.scan.SightingLaws.{one, some}
use Rattle.hart_frame.proofs.scan.sighting.sightings_are_unambiguous.Goals as goal

pub returns : goal.returns
returns c = record { one = one; some = some }
