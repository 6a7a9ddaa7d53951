use Rattle.std.proofs.Common.{◌≡◌, ◌-◌, ◌≤◌, length, drop}
use Rattle.hart_text.specs.Items.{ReadsUpTo}
use Rattle.hart_station.proofs.pieces.read_pieces.Given as goal

abbrev pub invariant-loop-lead : goal.invariant-loop-lead
invariant-loop-lead l = record {
  within : l.place ≤ length l.text;
  reads : ReadsUpTo l.text l.chars.items (drop l.place l.text);
  same_room : l.chars.room ≡ l.initial.chars.room;
}

abbrev pub decreases-loop-lead : goal.decreases-loop-lead
decreases-loop-lead l = length l.text - l.place
