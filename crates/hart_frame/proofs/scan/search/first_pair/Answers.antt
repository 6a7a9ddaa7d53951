use Rattle.hart_frame.proofs.Common.{arith}
use Rattle.hart_frame.proofs.lemmas.scan.Pairs.{no_pair_in_lanes, pair_in_lanes}
use Rattle.hart_frame.proofs.scan.search.first_pair.Goals as goal

pub returns-then-pairs-eq0 : goal.returns-then-pairs-eq0
returns-then-pairs-eq0 c = no_pair_in_lanes c.args.bytes.now c.args.place c.requires c.if-pairs-eq0.true

pub returns : goal.returns
returns c = pair_in_lanes c.args.bytes.now c.args.place c.requires (omega (arith, c.if-pairs-eq0.false))
