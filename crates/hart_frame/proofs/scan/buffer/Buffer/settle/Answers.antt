use Rattle.hart_frame.proofs.Common.{length-drop, length-append, arith, ap, length, take-length}
use Rattle.hart_frame.proofs.lemmas.scan.Buffer.{waits_drained}
use Rattle.hart_frame.proofs.lemmas.scan.Chunk.{IsKept, hears_kept}
use Rattle.hart_frame.proofs.scan.buffer.Buffer.settle.Goals as goal

kept : (c : goal.After-struct_known-1) → IsKept c.args.self.now
    (record c.keep.new.self { state = c.state_of-self.result }) c.args.part.now c.args.found
kept c = grind (arith, waits_drained)

pub returns-clause-sound : goal.returns-clause-sound
returns-clause-sound c = grind (arith, kept, take-length, length-drop, length-append)

pub returns-clause-hears : goal.returns-clause-hears
returns-clause-hears c =
    let is = kept c in
    hears_kept c.args.self.now _ c.args.part.now c.args.found is _ (returns-clause-sound c)
    (omega (arith, is.searched.late, ap length c.held-held.ensures.held))
