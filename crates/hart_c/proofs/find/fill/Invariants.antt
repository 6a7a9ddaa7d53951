use Rattle.std.proofs.Common.{◌≡◌, ◌≤◌, ◌-◌, List, All, drop, length, map, take}
use Rattle.hart_frame.specs.heard.Character.{Character}
use Rattle.hart_frame.specs.scan.Streamed.{IsHistory}
use Rattle.hart_c.specs.Numbers.{IsTidy, found_in}
use Rattle.hart_c.proofs.find.fill.Given as goal

abbrev pub invariant-loop-count : goal.invariant-loop-count
invariant-loop-count l = record {
  within : l.count ≤ length l.frames;
  onward : l.initial.count ≤ l.count;
  untouched : drop l.count l.frames ≡ drop l.count l.initial.frames;
  tidy : All IsTidy (take l.initial.count l.initial.frames) → All IsTidy (take l.count l.frames);
  finished : l.scanner.finished ≡ l.initial.scanner.finished;
  history : (past : List Character) → IsHistory past l.initial.scanner (map found_in (take l.initial.count l.initial.frames))
      → IsHistory past l.scanner (map found_in (take l.count l.frames));
}

abbrev pub decreases-loop-count : goal.decreases-loop-count
decreases-loop-count l = length l.frames - l.count
