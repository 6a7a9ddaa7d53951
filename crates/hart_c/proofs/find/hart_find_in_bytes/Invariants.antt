use Rattle.std.proofs.Common.{◌≡◌, ◌≤◌, ◌-◌, All, drop, length, map, take}
use Rattle.hart_frame.specs.heard.Character.{faultless}
use Rattle.hart_frame.specs.scan.Next.{AreNext}
use Rattle.hart_c.specs.Numbers.{IsTidy, found_in}
use Rattle.hart_c.proofs.find.hart_find_in_bytes.Given as goal

abbrev pub invariant-loop-count : goal.invariant-loop-count
invariant-loop-count l = record {
  room : l.count ≤ length l.frames;
  within : l.used ≤ length l.bytes;
  untouched : drop l.count l.frames ≡ drop l.count l.initial.frames;
  tidy : All IsTidy (take l.count l.frames);
  next : AreNext (faultless l.bytes) l.ended 0 (map found_in (take l.count l.frames)) l.used;
}

abbrev pub decreases-loop-count : goal.decreases-loop-count
decreases-loop-count l = length l.frames - l.count
