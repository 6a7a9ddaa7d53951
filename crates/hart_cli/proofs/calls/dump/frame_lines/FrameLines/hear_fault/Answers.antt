use Rattle.std.proofs.Common.{arith}
use Rattle.hart_cli.proofs.lemmas.dump.FrameLines.{heard_fault, waits_nothing}
use Rattle.hart_cli.proofs.calls.dump.frame_lines.FrameLines.hear_fault.Goals as goal

pub returns-clause-hears : goal.returns-clause-hears
returns-clause-hears c = λ character bad.
    heard_fault c.args.self.now _ character c.push_decided-used.result bad
    (rw c.as_slice-held.ensures.value at c.push_decided-used.ensures) (omega arith) c.clear.ensures

pub returns-clause-waiting : goal.returns-clause-waiting
returns-clause-waiting c = rw c.clear.ensures waits_nothing
