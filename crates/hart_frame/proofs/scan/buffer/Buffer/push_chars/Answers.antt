use Rattle.hart_frame.proofs.Common.{sym, ◌∙◌, arith, false≢true, take_rest}
use Rattle.hart_frame.proofs.lemmas.scan.Chunk.{hearing_on, hears_all, hears_until}
use Rattle.hart_frame.proofs.scan.buffer.Buffer.push_chars.Goals as goal

pub returns-then-not-is_drained-clause-hears : goal.returns-then-not-is_drained-clause-hears
returns-then-not-is_drained-clause-hears c =
    let (sound, drained, so) = c.loop-taken.invariant in
    hears_until c.args.self.now _ c.push_stretch-taken.new.self c.args.chunk.now _ _ _ so sound drained
    (λ is. false≢true (sym c.if-not-is_drained.true ∙ c.is_drained.ensures.1 is))
    (take_rest _ c.loop-taken.taken) c.push_stretch-taken.ensures.hears

pub loop-taken-preserved : goal.loop-taken-preserved
loop-taken-preserved c =
    let on = hearing_on c.args.self.now _ c.push_stretch-taken.new.self c.args.chunk.now _ _ _ c.loop-taken.invariant.2
    (take_rest c.args.chunk.now c.loop-taken.taken) c.push_stretch-taken.ensures.hears in grind arith

pub returns-clause-hears : goal.returns-clause-hears
returns-clause-hears c =
    let (sound, drained, so) = c.loop-taken.invariant in
    hears_all c.args.self.now _ c.args.chunk.now _ so sound drained (omega (arith, c.loop-taken-test.false))
