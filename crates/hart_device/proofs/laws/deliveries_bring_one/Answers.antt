use Rattle.hart_device.proofs.lemmas.Laws.{deliveries_bring_one-brings, deliveries_bring_one-one}
use Rattle.hart_device.proofs.laws.deliveries_bring_one.Goals as goal

pub returns : goal.returns
returns c = record { brings = deliveries_bring_one-brings; one = deliveries_bring_one-one }
