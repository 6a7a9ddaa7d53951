use Rattle.hart_frame.proofs.Common.{◌≤◌, ◌-◌, length, AreSilent}
use Rattle.hart_frame.proofs.scan.sighting.next_sighting.Given as goal

abbrev pub invariant-loop-start : goal.invariant-loop-start
invariant-loop-start l = record {
  order : l.from ≤ l.place;
  within : l.place ≤ length l.bytes;
  silent : AreSilent l.bytes l.after l.from l.place;
}

abbrev pub decreases-loop-start : goal.decreases-loop-start
decreases-loop-start l = length l.bytes - l.place
