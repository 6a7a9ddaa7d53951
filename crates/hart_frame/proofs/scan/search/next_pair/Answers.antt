use Rattle.hart_frame.proofs.Common.{arith}
use Rattle.hart_frame.proofs.lemmas.scan.Search.{pair_after, pair_at_end}
use Rattle.hart_frame.proofs.scan.search.next_pair.Goals as goal

pub loop-place-preserved : goal.loop-place-preserved
loop-place-preserved c = grind (arith, c.next_preamble-place.ensures.others, c.in_default.ensures)

pub returns-in-Some : goal.returns-in-Some
returns-in-Some c = grind (arith, pair_after)

pub returns-then-from-bytes : goal.returns-then-from-bytes
returns-then-from-bytes c = grind (arith, pair_at_end c.args.bytes.now c.args.from c.loop-place.place)
