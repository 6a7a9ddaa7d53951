use Rattle.hart_device.proofs.lemmas.Laws.{images_have_no_fault}
use Rattle.hart_device.proofs.laws.images_have_no_fault.Goals as goal

pub returns : goal.returns
returns c = images_have_no_fault
