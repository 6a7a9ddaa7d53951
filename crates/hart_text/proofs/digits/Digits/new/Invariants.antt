use Rattle.std.proofs.Common.{◌≡◌, length}
use Rattle.hart_text.specs.Digits.{AreDigitValues}
use Rattle.hart_text.proofs.digits.Digits.new.Given as goal

abbrev pub invariant-loop-place : goal.invariant-loop-place
invariant-loop-place l = record { values : AreDigitValues l.place l.values; long : length l.values ≡ 256 }
