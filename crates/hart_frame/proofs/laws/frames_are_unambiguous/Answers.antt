use Rattle.hart_frame.proofs.lemmas.heard.FramesFound.{AreFrames-one, IsFirst-one}
use Rattle.hart_frame.proofs.laws.frames_are_unambiguous.Goals as goal

pub returns : goal.returns
returns c = record { one_first = IsFirst-one; one_list = AreFrames-one }
