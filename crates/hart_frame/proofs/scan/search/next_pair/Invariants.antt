use Rattle.hart_frame.proofs.Common.{◌-◌, ◌≤◌, length, HasNoPair}
use Rattle.hart_frame.proofs.scan.search.next_pair.Given as goal

abbrev pub invariant-loop-place : goal.invariant-loop-place
invariant-loop-place l = (l.from ≤ l.place) × (l.place ≤ length l.bytes) × HasNoPair l.bytes l.from l.place

abbrev pub decreases-loop-place : goal.decreases-loop-place
decreases-loop-place l = length l.bytes - l.place
