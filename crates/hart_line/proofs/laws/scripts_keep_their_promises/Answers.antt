use Rattle.hart_line.proofs.lemmas.Laws.{scripts_keep_their_promises-detected, scripts_keep_their_promises-first_world}
use Rattle.hart_line.proofs.lemmas.Laws.{scripts_keep_their_promises-kept}
use Rattle.hart_line.proofs.laws.scripts_keep_their_promises.Goals as goal

pub returns : goal.returns
returns c = assumption (scripts_keep_their_promises-first_world, scripts_keep_their_promises-kept, scripts_keep_their_promises-detected)
