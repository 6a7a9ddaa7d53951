use Rattle.std.proofs.Common.{arith}
use Rattle.std.proofs.lemmas.Grind.{common_steps}
use Rattle.hart_device.proofs.lemmas.answer.Delivery.{reply_by}
use Rattle.hart_device.proofs.device.Device.hear.Goals as goal

pub returns-in-NoFrame-clause-answer : goal.returns-in-NoFrame-clause-answer
returns-in-NoFrame-clause-answer g c = λ brought brings.
    let none = c.in-NoFrame.ensures.only brings.frames brings.are_frames in
    let answer = reply_by c.args.self.now c.args.process.now c.args.delivery.now brought c.reply_to_garbled.result in
    grind (arith, common_steps, none, answer, brings.by_frames, c.reply_to_garbled.ensures.reply)
