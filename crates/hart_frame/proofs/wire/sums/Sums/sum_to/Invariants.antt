use Rattle.hart_frame.proofs.Common.{◌+◌, ◌-◌, ◌≤◌, length}
use Rattle.hart_frame.specs.private.Sums.{AreSums}
use Rattle.hart_frame.proofs.wire.sums.Sums.sum_to.Given as goal

abbrev pub invariant-loop-self : goal.invariant-loop-self
invariant-loop-self l = AreSums l.bytes l.self × (l.self.from ≤ l.start) × (l.end ≤ length l.bytes) × (l.end ≤ l.self.from + 1264)

abbrev pub decreases-loop-self : goal.decreases-loop-self
decreases-loop-self l = l.end + 1 - l.self.to
