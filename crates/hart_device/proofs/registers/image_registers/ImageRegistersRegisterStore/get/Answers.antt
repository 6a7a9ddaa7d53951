use Rattle.std.proofs.Common.{arith}
use Rattle.hart_device.proofs.lemmas.Registers.{bytes_in-contents_by}
use Rattle.hart_device.proofs.registers.image_registers.ImageRegistersRegisterStore.get.Goals as goal

pub returns-clause-value : goal.returns-clause-value
returns-clause-value c = grind (arith, bytes_in-contents_by, c.range_of-range.ensures.start, c.range_of-range.ensures.end)
