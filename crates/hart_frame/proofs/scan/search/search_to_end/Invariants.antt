use Rattle.hart_frame.proofs.Common.{length, ◌-◌}
use Rattle.hart_frame.proofs.lemmas.scan.Search.{IsLookedAt}
use Rattle.hart_frame.proofs.scan.search.search_to_end.Given as goal

abbrev pub invariant-loop-found : goal.invariant-loop-found
invariant-loop-found l = IsLookedAt l.bytes l.from l.ended l.found

abbrev pub decreases-loop-found : goal.decreases-loop-found
decreases-loop-found l = length l.bytes - l.found.place
