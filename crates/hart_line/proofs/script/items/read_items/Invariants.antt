use Rattle.hart_line.proofs.Common.{◌≡◌, ◌+◌, ◌*◌, ◌/◌, ◌≤◌, length}
use Rattle.hart_line.proofs.lemmas.script.Items.{ReadsTo}
use Rattle.hart_line.proofs.script.items.read_items.Given as goal

abbrev pub invariant-loop-lead : goal.invariant-loop-lead
invariant-loop-lead l = record {
  few : 2 * length l.chars.items + length l.rest ≤ length l.word;
  room : l.chars.room ≡ length l.word / 2;
  reads : ReadsTo l.word l.chars.items l.rest;
}

abbrev pub decreases-loop-lead : goal.decreases-loop-lead
decreases-loop-lead l = length l.rest
