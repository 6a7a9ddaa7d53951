use Rattle.hart_frame.proofs.Common.{arith, parts_of}
use Rattle.hart_frame.proofs.scan.scanner.Scanner.take.Goals as goal

pub returns : goal.returns
returns c =
    let view = c.found.result in
    let frame = parts_of view.frame in
    let gives = c.in_ok-span.ensures.given.given frame c.found.ensures.frame in
    grind arith
