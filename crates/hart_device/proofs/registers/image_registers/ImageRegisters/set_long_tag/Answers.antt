use Rattle.hart_commands.specs.declared.register.Register.TheVariants.{Tag}
use Rattle.hart_device.proofs.registers.image_registers.ImageRegisters.set_long_tag.Goals as goal

pub returns-clause-set : goal.returns-clause-set
returns-clause-set c =
    rw (c.write.ensures.others Tag (λ same. cc), ← c.bytes_of.ensures, ← c.from_bytes-tag.ensures, c.write.ensures.written)
    c.long_tag_of.ensures
