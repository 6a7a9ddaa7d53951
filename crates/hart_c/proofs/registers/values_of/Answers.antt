use Rattle.std.proofs.Common.{rules}
use Rattle.hart_commands.specs.declared.register.Register.TheVariants.{Polling, Mode, Date}
use Rattle.hart_c.proofs.registers.values_of.Goals as goal

pub returns-in_err-polling-clause-accepted : goal.returns-in_err-polling-clause-accepted
returns-in_err-polling-clause-accepted c = (search rules, λ valid. let below = (valid Polling).1 in search rules)

pub returns-in_err-mode-clause-accepted : goal.returns-in_err-mode-clause-accepted
returns-in_err-mode-clause-accepted c = (search rules, λ valid. let below = (valid Mode).1 in search rules)

pub returns-in_err-date-clause-accepted : goal.returns-in_err-date-clause-accepted
returns-in_err-date-clause-accepted c = (search rules, λ valid. let is_date = (valid Date).1 in search rules)
