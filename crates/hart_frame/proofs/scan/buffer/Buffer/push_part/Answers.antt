use Rattle.hart_frame.proofs.Common.{arith, scan_of}
use Rattle.hart_frame.proofs.lemmas.scan.Chunk.{bytes_heard}
use Rattle.hart_frame.proofs.scan.buffer.Buffer.push_part.Goals as goal

pub returns-clause-hears : goal.returns-clause-hears
returns-clause-hears c =
    grind (arith, bytes_heard (scan_of c.args.self.now) (scan_of c.settle-2.new.self) c.args.chunk.now c.min.result)
