use Rattle.hart_device.proofs.lemmas.answer.Effect.{resets_name_this_counter-only}
use Rattle.hart_device.proofs.laws.resets_name_this_counter.Goals as goal

pub returns-clause-only : goal.returns-clause-only
returns-clause-only c = λ state frame. resets_name_this_counter-only state frame
