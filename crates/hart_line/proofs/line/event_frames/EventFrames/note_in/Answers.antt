use Rattle.hart_line.proofs.Common.{◌≡◌, [], ◌∷◌, arith}
use Rattle.hart_line.proofs.line.event_frames.EventFrames.note_in.Goals as goal

pub returns-clause-noted : goal.returns-clause-noted
returns-clause-noted g c =
    let two : c.self.inside.count ≡ 2 = omega (arith, c.self.invariant, c.if-count-eq0.false, c.if-count-eq1.false) in
    let both = g.met.L.Log.more _ _ _ (c.self.inside.first ∷ []) (c.self.inside.second ∷ []) c.in_ok-note.ensures.noted
    c.in_ok-note-2.ensures.noted in
    rw (← c.self.view_is, two) both
