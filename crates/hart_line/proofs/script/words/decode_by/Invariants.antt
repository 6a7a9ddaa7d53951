use Rattle.hart_line.proofs.Common.{ℕ, ◌+◌, ◌*◌, ◌<◌, get_or}
use Rattle.hart_text.specs.Digits.{AreDigitsOf}
use Rattle.hart_line.proofs.script.words.decode_by.Given as goal

-- each byte so far is the one that its two digits write
abbrev pub invariant-loop-place : goal.invariant-loop-place
invariant-loop-place l = (k : ℕ) → k < l.place → AreDigitsOf (get_or l.bytes k 0) (get_or l.word (2 * k) 0) (get_or l.word (2 * k + 1) 0)
