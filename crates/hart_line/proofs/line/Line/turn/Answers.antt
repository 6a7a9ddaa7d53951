use Rattle.hart_line.proofs.Common.{refl, sent_back}
use Rattle.hart_line.proofs.lemmas.line.Leg.{says_request}
use Rattle.hart_line.proofs.lemmas.line.Turn.{turn_answered, turn_stands}
use Rattle.hart_line.proofs.line.Line.turn.Goals as goal

pub returns-in_default-clause-stopped : goal.returns-in_default-clause-stopped
returns-in_default-clause-stopped g c = λ start world process stands.
    let sends = c.send-is_sent.ensures start.retries world.hands (rw (← c.self.view_is) at stands.masters_are) in
    let says = says_request c.args.who _ _ _ _ (rw (← c.frame_if-sent.ensures) at sends.0)
    (rw c.party_of.ensures at c.speak.ensures.speaks) in
    (_, _, (refl, refl), c.in_default.ensures.undetected _ says.1)

pub returns-in_default-arrived_in-clause-stopped : goal.returns-in_default-arrived_in-clause-stopped
returns-in_default-arrived_in-clause-stopped g c = λ start world process stands.
    let sends = c.send-is_sent.ensures start.retries world.hands (rw (← c.self.view_is) at stands.masters_are) in
    let nothing = rw (← c.self.view_is) at c.requires.room.nothing_spoken in
    let a = turn_answered start world c.args.who c.args.up.now _ _ _ _ _ _ _ (rw (← c.self.view_is) at stands) process
    (rw (← c.frame_if-sent.ensures) at sends.0) (rw (c.party_of.ensures, nothing) at c.speak.ensures.speaks)
    (rw (← c.frame_if-sent_back.ensures) at c.in-Ok.ensures.answers) c.self.invariant c.speak-2.ensures.speaks in
    (_, _, (refl, a.brought, a.arrives, refl), c.in_default-arrived_in.ensures.undetected (sent_back start world a.brought) a.was_sent)

pub returns-clause-stepped : goal.returns-clause-stepped
returns-clause-stepped g c = λ start world process within stands.
    let sends = c.send-is_sent.ensures start.retries world.hands (rw (← c.self.view_is) at stands.masters_are) in
    let nothing = rw (← c.self.view_is) at c.requires.room.nothing_spoken in
    let a = turn_answered start world c.args.who c.args.up.now _ _ _ _ _ _ _ (rw (← c.self.view_is) at stands) process
    (rw (← c.frame_if-sent.ensures) at sends.0) (rw (c.party_of.ensures, nothing) at c.speak.ensures.speaks)
    (rw (← c.frame_if-sent_back.ensures) at c.in-Ok.ensures.answers) c.self.invariant c.speak-2.ensures.speaks in
    let ends = c.end_turn.ensures.ends start.retries world.hands sends.1 in
    turn_stands start world c.args.who c.args.up.now c.args.down.now _ _ _ _ within refl a c.in-Ok-arrived_in.ensures.arrives
    (rw (rw (← c.self.view_is) at stands.outcomes_are) at ends) (rw (← c.self.view_is) at stands.preambles_are)
