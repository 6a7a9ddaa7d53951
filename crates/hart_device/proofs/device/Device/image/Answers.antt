use Rattle.std.proofs.Common.{◌≡◌, ◌<◌, ◌^◌, arith}
use Rattle.std.proofs.lemmas.Grind.{common_steps}
use Rattle.std.specs.List.{slice_index_or}
use Rattle.hart_device.specs.Image.{image_of}
use Rattle.hart_device.proofs.lemmas.Image.{written_is}
use Rattle.hart_device.proofs.lemmas.Registers.{next_register}
use Rattle.hart_device.proofs.device.Device.image.Goals as goal

pub returns-clause-image : goal.returns-clause-image
returns-clause-image g c =
    let written : c.push-2.new.self ≡ image_of c.args.self.now = grind (arith, common_steps) in
    let counter : c.args.self.now.counter < 2 ^ 16 = rw c.counter-counter.ensures at c.counter-counter.type_inv in
    rw written (written_is c.args.self.now c.registers-registers.ensures.valid counter)

pub returns-clause-len : goal.returns-clause-len
returns-clause-len g c = grind (arith, common_steps)

pub loop-register-preserved : goal.loop-register-preserved
loop-register-preserved g c =
    rw (next_register c.loop-register.register-index c.loop-register-test.true) (grind (arith, common_steps, slice_index_or))
