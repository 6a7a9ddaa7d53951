use Rattle.std.proofs.Common.{◌≤◌, ◌-◌, length, drop}
use Rattle.hart_frame.specs.heard.Character.{faultless}
use Rattle.hart_text.specs.Items.{ReadsUpTo}
use Rattle.hart_text.proofs.chunk.read_chunk.Given as goal

abbrev pub invariant-loop-len : goal.invariant-loop-len
invariant-loop-len g l = record {
  within : l.place ≤ length l.text;
  reads : ReadsUpTo l.text (faultless l.chunk) (drop l.place l.text);
}

abbrev pub decreases-loop-len : goal.decreases-loop-len
decreases-loop-len g l = length l.text - l.place
