use Rattle.std.proofs.Common.{◌≡◌, ◌<◌, ◌≤◌, ◌-◌, false, IsTrue, All, drop, length, map, take}
use Rattle.hart_frame.specs.heard.Frames.{IsUndecided}
use Rattle.hart_frame.specs.scan.Streamed.{IsHistory}
use Rattle.hart_c.specs.Find.{char_of}
use Rattle.hart_c.specs.Numbers.{IsTidy, found_in}
use Rattle.hart_c.proofs.find.hart_find.Given as goal

abbrev pub invariant-loop-taken : goal.invariant-loop-taken
invariant-loop-taken l = record {
  within : l.taken ≤ length l.heard;
  room : l.count ≤ length l.frames;
  untouched : drop l.count l.frames ≡ drop l.count l.initial.frames;
  tidy : All IsTidy (take l.count l.frames);
  going : l.scanner.finished ≡ false;
  drained : l.count < length l.frames → IsTrue l.scanner.drained;
  few : l.count < length l.frames → length l.scanner.held ≤ 268;
  undecided : l.count < length l.frames → IsUndecided l.scanner.held;
  history : IsHistory (take l.taken (map char_of l.heard)) l.scanner (map found_in (take l.count l.frames));
}

abbrev pub decreases-loop-taken : goal.decreases-loop-taken
decreases-loop-taken l = length l.heard - l.taken
