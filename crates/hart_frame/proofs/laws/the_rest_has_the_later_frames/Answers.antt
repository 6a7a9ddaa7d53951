use Rattle.hart_frame.proofs.lemmas.Laws.{the_rest_has_the_later_frames}
use Rattle.hart_frame.proofs.laws.the_rest_has_the_later_frames.Goals as goal

pub returns : goal.returns
returns c = the_rest_has_the_later_frames
