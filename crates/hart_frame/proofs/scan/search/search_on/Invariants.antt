use Rattle.hart_frame.proofs.Common.{length, ◌+◌, ◌-◌, ◌≤◌}
use Rattle.hart_frame.specs.private.Search.{IsSearching}
use Rattle.hart_frame.specs.private.Sums.{AreSums}
use Rattle.hart_frame.proofs.scan.search.search_on.Given as goal

abbrev pub invariant-loop-start : goal.invariant-loop-start
invariant-loop-start l =
    IsSearching l.bytes l.first l.known l.place l.decided × AreSums l.bytes l.sums × (l.sums.from ≤ l.place + 1)

abbrev pub decreases-loop-start : goal.decreases-loop-start
decreases-loop-start l = length l.bytes - l.place
