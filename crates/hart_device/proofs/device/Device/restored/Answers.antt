use Rattle.hart_device.specs.Registers.{values_of}
use Rattle.hart_device.proofs.lemmas.Registers.{same_contents}
use Rattle.hart_device.proofs.device.Device.restored.Goals as goal

pub returns : goal.returns
returns g c = rw (same_contents (g.S.RegisterStore.contents c.with.result) (values_of c.args.values.now) c.with.ensures.held)
