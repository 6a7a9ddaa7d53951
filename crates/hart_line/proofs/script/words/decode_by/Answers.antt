use Rattle.hart_line.proofs.Common.{arith, common_steps, ◌∙◌}
use Rattle.hex.proofs.HexLemmas.{decode_of-even}
use Rattle.hart_line.proofs.lemmas.script.Digits.{digits_decode, one_more_written}
use Rattle.hart_line.proofs.script.words.decode_by.Goals as goal

pub loop-place-preserved : goal.loop-place-preserved
loop-place-preserved c = λ k below. one_more_written c.loop-place.bytes c.args.word.now c.loop-place.place c.in-Some.byte k
    (grind (arith, common_steps)) (c.loop-place.invariant k) (grind (arith, common_steps)) below

pub returns-clause-decoded : goal.returns-clause-decoded
returns-clause-decoded c = λ is_read. decode_of-even c.args.word.now (grind arith)
    ∙ digits_decode 0 c.args.word.now c.loop-place.bytes (grind arith) (λ k below. c.loop-place.invariant k (grind arith))
