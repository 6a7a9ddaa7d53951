use Rattle.hart_commands.proofs.lemmas.Laws.{all_registers_are_listed_once-every, all_registers_are_listed_once-place}
use Rattle.hart_commands.proofs.laws.all_registers_are_listed_once.Goals as goal

pub returns-clause-every : goal.returns-clause-every
returns-clause-every c = all_registers_are_listed_once-every

pub returns-clause-place : goal.returns-clause-place
returns-clause-place c = all_registers_are_listed_once-place
