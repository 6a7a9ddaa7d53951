use Rattle.std.proofs.Common.{◌++◌, arith, length-append}
use Rattle.std.proofs.lemmas.Grind.{common_steps}
use Rattle.hart_commands.proofs.lemmas.RequestMade.{given}
use Rattle.hart_commands.proofs.laws.too_few_data_are_fewer_than_needed.Goals as goal

pub returns : goal.returns
returns c = record {
  exactly = λ command bytes. grind (arith, given command bytes);
  enough = λ command bytes all e. grind (arith, given command bytes);
  still = λ command bytes rest e few. grind (arith, common_steps, length-append, given command bytes, given command (bytes ++ rest));
}
