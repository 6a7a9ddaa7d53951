use Rattle.std.proofs.Common.{arith, sym}
use Rattle.hart_device.proofs.lemmas.answer.Effect.{effect_is_asked}
use Rattle.hart_device.proofs.device.Device.answer_into.Goals as goal

pub returns-clause-answers : goal.returns-clause-answers
returns-clause-answers g c = sym c.in-Some.ensures.0

pub returns-clause-written : goal.returns-clause-written
returns-clause-written g c = grind (arith, effect_is_asked)

pub returns-clause-state : goal.returns-clause-state
returns-clause-state g c = grind (arith, effect_is_asked)
