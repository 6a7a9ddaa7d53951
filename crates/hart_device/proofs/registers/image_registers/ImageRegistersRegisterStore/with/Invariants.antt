use Rattle.std.proofs.Common.{Some}
use Rattle.hart_commands.specs.Registers.{bytes_in}
use Rattle.hart_device.specs.Registers.{values_of}
use Rattle.hart_device.proofs.lemmas.Registers.{AreWrittenBefore}
use Rattle.hart_device.proofs.registers.image_registers.ImageRegistersRegisterStore.with.Given as goal

abbrev pub invariant-loop-register : goal.invariant-loop-register
invariant-loop-register l =
    AreWrittenBefore l.register-index (λ register. Some (bytes_in (values_of l.values) register)) l.initial.store.bytes l.store.bytes
