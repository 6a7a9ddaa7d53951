use Rattle.hart_frame.proofs.Common.{arith, common_steps}
use Rattle.hart_frame.proofs.lemmas.wire.Lane.{xor_of-block}
use Rattle.hart_frame.proofs.wire.parity.fold_blocks.Goals as goal

pub loop-block-preserved : goal.loop-block-preserved
loop-block-preserved c = grind (arith, xor_of-block 16 c.loop-block.block-index c.args.bytes.now c.loop-block.lanes)

pub returns-clause-front : goal.returns-clause-front
returns-clause-front c = grind (arith, common_steps)
