use Rattle.std.proofs.Common.{◌≡◌, ◌+◌, ◌-◌, ◌≤◌, length}
use Rattle.hart_frame.specs.heard.Character.{faultless}
use Rattle.hart_listen.specs.Preambles.{after_preambles, last_preambles}
use Rattle.hart_listen.proofs.lemmas.Preambles.{last_of_first}
use Rattle.hart_listen.proofs.past.preambles_after.Given as goal

abbrev pub invariant-loop-place : goal.invariant-loop-place
invariant-loop-place l = record {
  within : l.place ≤ length l.bytes;
  counted : last_preambles (after_preambles l.preambles (faultless l.bytes))
      ≡ length l.bytes - l.place + last_of_first l.preambles l.bytes l.place;
}

abbrev pub decreases-loop-place : goal.decreases-loop-place
decreases-loop-place l = l.place
