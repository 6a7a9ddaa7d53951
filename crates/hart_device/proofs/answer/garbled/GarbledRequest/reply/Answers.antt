use Rattle.std.proofs.Common.{arith, refl}
use Rattle.std.proofs.lemmas.Grind.{common_steps, elements}
use Rattle.hart_device.proofs.answer.garbled.GarbledRequest.reply.Goals as goal

pub returns : goal.returns
returns c =
    let held = c.bytes.ensures.held in
    let beside = c.bytes.ensures.nothing_beside_faults c.args.self.faults refl in grind (arith, common_steps, elements, held, beside)
