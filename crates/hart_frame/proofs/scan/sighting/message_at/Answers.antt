use Rattle.hart_frame.proofs.Common.{arith, length-drop, refl}
use Rattle.hart_frame.proofs.scan.sighting.message_at.Goals as goal

pub returns-clause-message : goal.returns-clause-message
returns-clause-message c = (_, refl, grind (arith, length-drop))
