use Rattle.hart_line.proofs.Common.{arith, None, refl, Chars, Noise, replied}
use Rattle.hart_line.proofs.lemmas.line.Leg.{noise_answers}
use Rattle.hart_line.proofs.lemmas.line.Turn.{answered, replied_steps}
use Rattle.hart_line.proofs.line.Line.hear_noise.Goals as goal

pub returns-in_default-clause-stopped : goal.returns-in_default-clause-stopped
returns-in_default-clause-stopped g c = λ start world process stands. (
  Chars c.args.chars.now,
  None,
  (refl, refl),
  record { chars = c.args.chars.now; are_heard = refl; among = c.in_default.ensures.undetected },
)

pub returns-clause-stepped : goal.returns-clause-stepped
returns-clause-stepped g c = λ start world process within stands.
    let s = rw (← c.self.view_is) at stands in
    let a = answered start world (Chars c.args.chars.now) None _ _ _ _ _ _ s process refl
    (grind (arith, noise_answers)) c.self.invariant
    (rw (c.frame_if-answer.ensures, rw (← c.self.view_is) at c.requires.room.nothing_spoken) at c.speak.ensures.speaks) in
    let held = c.hear_noise.ensures start.retries world.hands s.masters_are in
    replied_steps start world (Noise c.args.chars.now) (Chars c.args.chars.now) _ _ a
    (record { brought = a.brought; arrives = a.arrives; next_is = refl {a = replied start world a.brought} })
    held s.outcomes_are s.preambles_are
