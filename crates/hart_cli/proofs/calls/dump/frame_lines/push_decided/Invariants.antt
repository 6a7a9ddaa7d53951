use Rattle.std.proofs.Common.{◌-◌, length}
use Rattle.hart_cli.proofs.lemmas.dump.FrameLines.{AddedSoFar}
use Rattle.hart_cli.proofs.calls.dump.frame_lines.push_decided.Given as goal

abbrev pub invariant-loop-found : goal.invariant-loop-found
invariant-loop-found l = AddedSoFar l.first l.held l.ended l.used l.initial.lines l.lines

abbrev pub decreases-loop-found : goal.decreases-loop-found
decreases-loop-found l = length l.held - l.used
