use Rattle.hart_frame.proofs.Common.{◌≡◌, ◌*◌, ◌/◌, length, arith}
use Rattle.hart_frame.proofs.lemmas.wire.Lane.{fold-rest, xor_of-block}
use Rattle.hart_frame.proofs.wire.parity.fold_few.Goals as goal

pub loop-word-preserved : goal.loop-word-preserved
loop-word-preserved c = grind (arith, xor_of-block 4 c.loop-word.word-index c.args.bytes.now c.loop-word.lanes)

pub returns : goal.returns
returns c =
    let bytes = c.args.bytes.now in
    let all : 4 * c.loop-word.word-index ≡ length bytes / 4 * 4 = omega arith in
    let before = rw all at c.loop-word.invariant in
    grind (arith, fold-rest c.args.check (length bytes / 4 * 4) bytes c.loop-word.lanes c.as_chunks.result.1.now before)
