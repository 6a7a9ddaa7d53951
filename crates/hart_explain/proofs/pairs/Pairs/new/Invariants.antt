use Rattle.std.proofs.Common.{◌≡◌, length}
use Rattle.hart_explain.specs.Pairs.{ArePairs}
use Rattle.hart_explain.proofs.pairs.Pairs.new.Given as goal

abbrev pub invariant-loop-place : goal.invariant-loop-place
invariant-loop-place l = record { pairs : ArePairs l.place l.pairs; long : length l.pairs ≡ 256 }
