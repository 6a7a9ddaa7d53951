use Rattle.hart_frame.proofs.Common.{◌≡◌, ℕ, List, length, drop, ◌∙◌, sym, arith, false≢true, drop-map, length-map, take_rest, slice_range}
use Rattle.hart_frame.proofs.Common.{faultless}
use Rattle.hart_frame.proofs.lemmas.scan.Chunk.{hearing_on, hears_all, hears_until}
use Rattle.hart_frame.proofs.scan.buffer.Buffer.push_bytes.Goals as goal

-- The faultless characters of the rest of a chunk are the rest of the chunk's characters.
rest_of : (chunk : List ℕ) (n : ℕ) → faultless (slice_range chunk n (length chunk)) ≡ drop n (faultless chunk)
rest_of chunk n = grind (arith, take_rest, drop-map)

pub returns-then-not-is_drained-clause-hears : goal.returns-then-not-is_drained-clause-hears
returns-then-not-is_drained-clause-hears c =
    let (sound, drained, so) = c.loop-taken.invariant in
    hears_until c.args.self.now _ c.push_part-taken.new.self (faultless c.args.chunk.now) _ _ _ so sound drained
    (λ is. false≢true (sym c.if-not-is_drained.true ∙ c.is_drained.ensures.1 is))
    (rest_of _ c.loop-taken.taken) c.push_part-taken.ensures.hears

pub loop-taken-preserved : goal.loop-taken-preserved
loop-taken-preserved c =
    let on = hearing_on c.args.self.now _ c.push_part-taken.new.self (faultless c.args.chunk.now) _ _ _ c.loop-taken.invariant.2
    (rest_of _ c.loop-taken.taken) c.push_part-taken.ensures.hears in grind arith

pub returns-clause-hears : goal.returns-clause-hears
returns-clause-hears c =
    let (sound, drained, so) = c.loop-taken.invariant in
    hears_all c.args.self.now _ (faultless c.args.chunk.now) _ so sound drained (rw length-map (omega (arith, c.loop-taken-test.false)))
