use Rattle.hart_line.proofs.lemmas.world.Reset.{refused_step}
use Rattle.hart_line.proofs.laws.refused_turns_change_nothing.Goals as goal

pub returns : goal.returns
returns c = refused_step
