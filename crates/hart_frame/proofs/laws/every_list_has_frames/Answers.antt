use Rattle.hart_frame.proofs.lemmas.heard.FramesFound.{AreFrames-found}
use Rattle.hart_frame.proofs.laws.every_list_has_frames.Goals as goal

pub returns : goal.returns
returns c = AreFrames-found
