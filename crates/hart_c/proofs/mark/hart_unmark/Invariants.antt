use Rattle.std.proofs.Common.{◌≡◌, ◌≤◌, ◌-◌, drop, length, take}
use Rattle.hart_c.specs.Marks.{AreMarked}
use Rattle.hart_c.proofs.mark.hart_unmark.Given as goal

abbrev pub invariant-loop-len : goal.invariant-loop-len
invariant-loop-len l = record {
  used : l.used ≤ length l.bytes;
  shown : l.len ≤ length l.heard;
  room : length l.heard ≡ length l.initial.heard;
  untouched : drop l.len l.heard ≡ drop l.len l.initial.heard;
  marked : AreMarked (take l.used l.bytes) (take l.len l.heard);
}

abbrev pub decreases-loop-len : goal.decreases-loop-len
decreases-loop-len l = length l.heard - l.len
