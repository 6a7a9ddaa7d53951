use Rattle.hart_frame.proofs.Common.{arith, length-drop, get_or-drop}
use Rattle.hart_frame.proofs.lemmas.scan.Alone.{alone, crossed, lone_open, looked_at}
use Rattle.hart_frame.proofs.lemmas.scan.BodyAt.{body_header}
use Rattle.hart_frame.proofs.scan.sighting.lone_body.Goals as goal

pub returns-then-has_two_preambles : goal.returns-then-has_two_preambles
returns-then-has_two_preambles c = grind (arith, looked_at c.args.bytes.now c.args.start, crossed, length-drop)

pub returns-then-bytes-stop : goal.returns-then-bytes-stop
returns-then-bytes-stop c = grind (arith, looked_at c.args.bytes.now c.args.start, get_or-drop, lone_open, length-drop)

pub returns : goal.returns
returns c = grind (arith, looked_at c.args.bytes.now c.args.start, alone, body_header, get_or-drop, length-drop)
