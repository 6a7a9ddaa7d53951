use Rattle.std.proofs.Common.{◌≡◌, arith}
use Rattle.hart_listen.proofs.lemmas.Preambles.{last_all, last_of_first}
use Rattle.hart_listen.proofs.past.preambles_after.Goals as goal

pub returns : goal.returns
returns c =
    let first : last_of_first c.args.preambles c.args.bytes.now 0 ≡ c.args.preambles = last_all c.args.preambles in
    let none : c.loop-place.place ≡ 0 = omega (arith, c.loop-place-test.false) in
    omega (arith, rw none at c.loop-place.invariant.counted, first)
