use Rattle.hart_frame.proofs.Common.{arith, scan_of, Hears}
use Rattle.hart_frame.proofs.scan.scanner.Scanner.push_chars.Goals as goal

hears : (c : goal.After-push_chars) → Hears c.args.self.now (scan_of c.push_chars.new.self) c.args.chunk.now c.push_chars.result
hears c = grind arith

pub returns-clause-before : goal.returns-clause-before
returns-clause-before c = (hears c).before
