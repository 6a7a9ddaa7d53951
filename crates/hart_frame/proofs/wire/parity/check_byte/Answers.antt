use Rattle.hart_frame.proofs.Common.{arith}
use Rattle.hart_frame.proofs.lemmas.wire.Lane.{xor_of-block}
use Rattle.hart_frame.proofs.wire.parity.check_byte.Goals as goal

pub loop-block-preserved : goal.loop-block-preserved
loop-block-preserved c = grind (arith, xor_of-block 32 c.loop-block.block-index c.args.bytes.now c.loop-block.lanes)
