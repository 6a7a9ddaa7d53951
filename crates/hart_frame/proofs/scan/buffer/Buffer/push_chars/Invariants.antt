use Rattle.hart_frame.proofs.Common.{◌≡◌, ◌-◌, length, Drained, IsSound}
use Rattle.hart_frame.proofs.lemmas.scan.Chunk.{IsHearing}
use Rattle.hart_frame.proofs.scan.buffer.Buffer.push_chars.Given as goal

abbrev pub invariant-loop-taken : goal.invariant-loop-taken
invariant-loop-taken l = IsSound l.self × (l.self.state ≡ Drained) × IsHearing l.initial.self l.self l.chunk l.taken

abbrev pub decreases-loop-taken : goal.decreases-loop-taken
decreases-loop-taken l = length l.chunk - l.taken
