use Rattle.hart_c.proofs.Kept.{devices_are_kept-kept, devices_are_kept-one_state}
use Rattle.hart_c.proofs.laws.devices_are_kept.Goals as goal

pub returns : goal.returns
returns c = record { kept = devices_are_kept-kept; one_state = devices_are_kept-one_state }
