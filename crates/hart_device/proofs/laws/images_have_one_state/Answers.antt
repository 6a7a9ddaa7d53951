use Rattle.hart_device.proofs.lemmas.Image.{one_image, one_state}
use Rattle.hart_device.proofs.laws.images_have_one_state.Goals as goal

pub returns : goal.returns
returns c = search (one_image, one_state)
