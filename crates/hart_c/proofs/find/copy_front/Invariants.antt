use Rattle.std.proofs.Common.{◌≡◌, length, map, take}
use Rattle.hart_c.specs.Find.{char_of}
use Rattle.hart_c.proofs.find.copy_front.Given as goal

abbrev pub invariant-loop-place : goal.invariant-loop-place
invariant-loop-place l = record {
  len : length l.chunk ≡ length l.initial.chunk;
  copied : take l.place l.chunk ≡ take l.place (map char_of l.heard);
}
