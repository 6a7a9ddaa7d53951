use Rattle.hart_commands.proofs.lemmas.Laws.{requests_have_their_command}
use Rattle.hart_commands.proofs.laws.requests_have_their_command.Goals as goal

pub returns : goal.returns
returns c = requests_have_their_command
