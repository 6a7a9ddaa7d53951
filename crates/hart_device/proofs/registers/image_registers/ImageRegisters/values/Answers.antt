use Rattle.std.proofs.Common.{arith}
use Rattle.std.proofs.lemmas.Grind.{common_steps}
use Rattle.hart_commands.specs.declared.register.Register.TheVariants.{Polling, Mode, Date}
use Rattle.hart_device.proofs.registers.image_registers.ImageRegisters.values.Goals as goal

pub returns-in_err-polling-clause-refused : goal.returns-in_err-polling-clause-refused
returns-in_err-polling-clause-refused c = rw c.from_residual.ensures
    (Polling, λ same. cc, λ valid. grind (arith, common_steps, c.polling_in.ensures.valid.1, c.get.ensures.value))

pub returns-in_err-mode-clause-refused : goal.returns-in_err-mode-clause-refused
returns-in_err-mode-clause-refused c = rw c.from_residual-in_err-mode.ensures
    (Mode, λ same. cc, λ valid. grind (arith, common_steps, c.mode_in.ensures.valid.1, c.get-2.ensures.value))

pub returns-in_err-date-clause-refused : goal.returns-in_err-date-clause-refused
returns-in_err-date-clause-refused c = rw c.from_residual-in_err-date.ensures (
  Date,
  λ same. cc,
  λ valid.
      let accepted = c.from_bytes.ensures.accepted.1 (rw c.bytes_of.ensures valid.1) in
      let was = c.in_err-date.was in
      grind (arith, c.ok.ensures.variant),
)
