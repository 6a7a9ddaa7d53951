use Rattle.std.proofs.Common.{◌≡◌, length, map, take}
use Rattle.hart_c.specs.Find.{char_of}
use Rattle.hart_c.proofs.heard.hear_into.Given as goal

abbrev pub invariant-loop-place : goal.invariant-loop-place
invariant-loop-place l = (length l.chars ≡ 1024) × (take l.place l.chars ≡ map char_of (take l.place l.heard))
