use Rattle.clap.proofs.OnLiterals.{clap_on_literals}
use Rattle.hart_cli.proofs.calls.program.laws.words_are_calls.Goals as goal

pub returns : goal.returns
unfolding clap_on_literals
returns c = assumption
