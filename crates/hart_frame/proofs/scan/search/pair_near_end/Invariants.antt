use Rattle.hart_frame.proofs.Common.{HasNoPair}
use Rattle.hart_frame.proofs.scan.search.pair_near_end.Given as goal

abbrev pub invariant-loop-place : goal.invariant-loop-place
invariant-loop-place l = HasNoPair l.bytes l.from l.place
