use Rattle.hart_frame.proofs.lemmas.scan.Buffer.{drained_is, undecided_waiting, waits_drained}
use Rattle.hart_frame.proofs.scan.scanner.Scanner.is_drained.Goals as goal

pub returns-clause-waiting : goal.returns-clause-waiting
returns-clause-waiting c = rw (← c.self.view_is) (λ drained.
    let b = c.self.inside.buffer in
    let waiting = waits_drained b c.self.invariant (drained_is b.state drained) in (waiting.going, undecided_waiting b waiting))
