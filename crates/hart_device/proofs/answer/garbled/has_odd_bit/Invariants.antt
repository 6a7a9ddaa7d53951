use Rattle.std.proofs.Common.{◌<◌, take}
use Rattle.hart_device.proofs.lemmas.answer.Garbled.{IsCheck}
use Rattle.hart_device.proofs.answer.garbled.has_odd_bit.Given as goal

abbrev pub invariant-loop-character : goal.invariant-loop-character
invariant-loop-character l = record {
  check : IsCheck (take l.character-index l.chars) l.check;
  byte : l.check < 256;
}
