use Rattle.hart_device.proofs.lemmas.Laws.{devices_are_kept_whole-any_cold_start, devices_are_kept_whole-either_version}
use Rattle.hart_device.proofs.lemmas.Laws.{devices_are_kept_whole-image, devices_are_kept_whole-whole}
use Rattle.hart_device.proofs.laws.devices_are_kept_whole.Goals as goal

pub returns : goal.returns
returns c = search (
  devices_are_kept_whole-image,
  devices_are_kept_whole-any_cold_start,
  devices_are_kept_whole-whole,
  devices_are_kept_whole-either_version,
)
