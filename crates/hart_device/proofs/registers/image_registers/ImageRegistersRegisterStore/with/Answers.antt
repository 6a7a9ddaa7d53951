use Rattle.std.proofs.Common.{arith, Some, ◌∙◌}
use Rattle.std.proofs.lemmas.Grind.{common_steps}
use Rattle.hart_commands.specs.Registers.{bytes_in}
use Rattle.hart_device.specs.Registers.{values_of}
use Rattle.hart_device.proofs.lemmas.Registers.{all_written, one_more}
use Rattle.hart_device.proofs.registers.image_registers.ImageRegistersRegisterStore.with.Goals as goal

pub loop-register-preserved : goal.loop-register-preserved
loop-register-preserved c =
    one_more (λ r. Some (bytes_in (values_of c.args.values.now) r)) _ c.loop-register.store.bytes c.write.new.self.bytes
    c.loop-register.register-index c.loop-register-test.true
    (c.write.ensures.written ∙ c.get.ensures.value ∙ c.with-fields.ensures.held _) c.write.ensures.others c.loop-register.invariant

pub returns : goal.returns
returns c =
    let held = all_written (λ r. Some (bytes_in (values_of c.args.values.now) r)) _ c.loop-register.store.bytes
    c.loop-register.register-index c.loop-register-test.false c.loop-register.invariant in grind (arith, common_steps)
