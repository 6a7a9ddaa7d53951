use Rattle.hart_frame.proofs.Common.{◌≡◌, ◌-◌, length, faultless, Drained, IsSound}
use Rattle.hart_frame.proofs.lemmas.scan.Chunk.{IsHearing}
use Rattle.hart_frame.proofs.scan.buffer.Buffer.push_bytes.Given as goal

abbrev pub invariant-loop-taken : goal.invariant-loop-taken
invariant-loop-taken l = IsSound l.self × (l.self.state ≡ Drained) × IsHearing l.initial.self l.self (faultless l.chunk) l.taken

abbrev pub decreases-loop-taken : goal.decreases-loop-taken
decreases-loop-taken l = length l.chunk - l.taken
