use Rattle.hart_frame.proofs.Common.{◌≡◌, ◌*◌, take}
use Rattle.hart_frame.proofs.lemmas.wire.Lane.{xor_of}
use Rattle.hart_frame.proofs.wire.parity.fold_few.Given as goal

abbrev pub invariant-loop-word : goal.invariant-loop-word
invariant-loop-word l = xor_of l.lanes ≡ xor_of (take (4 * l.word-index) l.bytes)
