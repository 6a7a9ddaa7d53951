use Rattle.hart_frame.proofs.lemmas.heard.Damage.{AreFrames-check, AreFrames-marked}
use Rattle.hart_frame.proofs.heard.damage.damaged_messages_have_no_other_frame.Goals as goal

pub returns : goal.returns
returns c = record { marked = AreFrames-marked; check = AreFrames-check }
