use Rattle.hart_frame.proofs.Common.{◌≡◌, ◌*◌, take}
use Rattle.hart_frame.proofs.lemmas.wire.Lane.{xor_of}
use Rattle.hart_frame.proofs.wire.parity.check_byte.Given as goal

abbrev pub invariant-loop-block : goal.invariant-loop-block
invariant-loop-block l = xor_of l.lanes ≡ xor_of (take (32 * l.block-index) l.bytes)
