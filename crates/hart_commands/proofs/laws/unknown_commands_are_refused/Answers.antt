use Rattle.std.proofs.Common.{arith}
use Rattle.hart_commands.proofs.lemmas.RequestMade.{given}
use Rattle.hart_commands.proofs.laws.unknown_commands_are_refused.Goals as goal

pub returns : goal.returns
returns c command bytes = grind (arith, given command bytes)
