use Rattle.hart_device.proofs.lemmas.answer.Garbled.{garbled_decided, garbled_one}
use Rattle.hart_device.proofs.laws.garbled_requests_are_decided.Goals as goal

pub returns : goal.returns
returns c = record { one = garbled_one; decided = garbled_decided }
