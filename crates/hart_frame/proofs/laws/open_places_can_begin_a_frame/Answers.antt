use Rattle.hart_frame.proofs.lemmas.heard.FramesFound.{open_begins}
use Rattle.hart_frame.proofs.laws.open_places_can_begin_a_frame.Goals as goal

pub returns : goal.returns
returns c = open_begins
