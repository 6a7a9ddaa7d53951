use Rattle.hart_frame.proofs.Common.{◌≡◌, replicate}
use Rattle.hart_frame.proofs.wire.message.push_preamble.Given as goal

abbrev pub invariant-loop : goal.invariant-loop
invariant-loop l = l.output ≡ replicate l.counter 255
