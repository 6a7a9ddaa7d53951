use Rattle.hart_frame.proofs.lemmas.heard.Place.{NoneBefore}
use Rattle.hart_frame.proofs.heard.start.first_start.Given as goal

abbrev pub invariant-loop-place : goal.invariant-loop-place
invariant-loop-place l = record { none : NoneBefore l.chars l.place }
