use Rattle.hart_line.proofs.Common.{arith, common_steps, refl, rules}
use Rattle.hart_line.proofs.lemmas.line.Turn.{silent_step}
use Rattle.hart_line.proofs.line.Line.step.Goals as goal

pub returns-in-Protect-clause-stepped : goal.returns-in-Protect-clause-stepped
returns-in-Protect-clause-stepped g c = λ start world process within stands. rw c.in-Protect.is
    (silent_step start world _ _ _ refl refl (search rules) (grind (arith, common_steps)))

pub returns-in-Restart-clause-stepped : goal.returns-in-Restart-clause-stepped
returns-in-Restart-clause-stepped g c = λ start world process within stands. rw c.in-Restart.is
    (silent_step start world _ _ _ refl refl (search rules) (grind (arith, common_steps)))
