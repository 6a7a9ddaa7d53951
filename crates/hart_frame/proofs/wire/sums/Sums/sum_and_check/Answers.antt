use Rattle.hart_frame.proofs.Common.{arith}
use Rattle.hart_frame.proofs.lemmas.wire.Sums.{sums_part}
use Rattle.hart_frame.proofs.wire.sums.Sums.sum_and_check.Goals as goal

pub returns-then-stop-self-clause-check : goal.returns-then-stop-self-clause-check
returns-then-stop-self-clause-check c =
    rw c.part_check.ensures
    (sums_part c.args.bytes.now c.sum_to.new.self c.args.start c.args.stop c.sum_to.ensures.sums c.sum_to.ensures.after c.requires.order
    (omega (arith, c.if-stop-self.true)))
