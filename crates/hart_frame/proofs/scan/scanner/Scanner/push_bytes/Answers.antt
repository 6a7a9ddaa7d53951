use Rattle.hart_frame.proofs.Common.{arith, take-map, faultless, scan_of, Hears}
use Rattle.hart_frame.proofs.scan.scanner.Scanner.push_bytes.Goals as goal

hears : (c : goal.After-push_bytes) → Hears c.args.self.now (scan_of c.push_bytes.new.self) (faultless c.args.chunk.now) c.push_bytes.result
hears c = grind arith

pub returns-clause-moves : goal.returns-clause-moves
returns-clause-moves c = grind (arith, take-map)

pub returns-clause-before : goal.returns-clause-before
returns-clause-before c = simp take-map at (hears c).before
