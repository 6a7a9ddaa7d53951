use Rattle.std.proofs.Common.{arith}
use Rattle.std.proofs.lemmas.Grind.{common_steps}
use Rattle.std.proofs.lemmas.Slice.{between-put_mid}
use Rattle.hart_device.proofs.lemmas.Registers.{kept_apart}
use Rattle.hart_device.proofs.registers.image_registers.ImageRegisters.write.Goals as goal

pub returns-clause-written : goal.returns-clause-written
returns-clause-written c = grind (arith, common_steps, between-put_mid)

pub returns-clause-others : goal.returns-clause-others
returns-clause-others c =
    rw (c.range_of-range.ensures.start, c.range_of-range.ensures.end) (grind (arith, common_steps, kept_apart))
