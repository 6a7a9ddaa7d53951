use Rattle.hart_device.proofs.lemmas.Laws.{writes_execute_their_overwrite-executes, writes_execute_their_overwrite-only}
use Rattle.hart_device.proofs.lemmas.Laws.{writes_execute_their_overwrite-well_made}
use Rattle.hart_device.proofs.laws.writes_execute_their_overwrite.Goals as goal

pub returns : goal.returns
returns c = search (writes_execute_their_overwrite-executes, writes_execute_their_overwrite-only, writes_execute_their_overwrite-well_made)
