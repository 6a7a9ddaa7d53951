use Rattle.hart_commands.specs.Registers.{named_in}
use Rattle.hart_device.proofs.lemmas.Registers.{AreWrittenBefore}
use Rattle.hart_device.proofs.registers.image_registers.ImageRegistersRegisterStore.overwrite.Given as goal

abbrev pub invariant-loop-register : goal.invariant-loop-register
invariant-loop-register l = AreWrittenBefore l.register-index (named_in l.overwrite) l.initial.self.bytes l.self.bytes
