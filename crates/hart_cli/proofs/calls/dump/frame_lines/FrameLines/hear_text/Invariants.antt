use Rattle.std.proofs.Common.{length}
use Rattle.hart_cli.specs.dump.FrameLines.{HearsText, IsWaiting}
use Rattle.hart_cli.proofs.calls.dump.frame_lines.FrameLines.hear_text.Given as goal

abbrev pub invariant-loop-lead : goal.invariant-loop-lead
invariant-loop-lead l = record {
  heard : HearsText l.initial.self l.self l.text l.rest;
  waiting : IsWaiting l.self.held;
}

abbrev pub decreases-loop-lead : goal.decreases-loop-lead
decreases-loop-lead l = length l.rest
