use Rattle.std.proofs.Common.{length, take, ◌-◌, ◌≤◌, All}
use Rattle.hart_text.specs.Heard.{IsVisible}
use Rattle.hart_text.proofs.marks.visible_len.Given as goal

abbrev pub invariant-loop-len : goal.invariant-loop-len
invariant-loop-len l = record {
  within : l.len ≤ length l.text;
  visible : All IsVisible (take l.len l.text);
}

abbrev pub decreases-loop-len : goal.decreases-loop-len
decreases-loop-len l = length l.text - l.len
