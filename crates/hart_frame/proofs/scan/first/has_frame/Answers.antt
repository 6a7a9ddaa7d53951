use Rattle.hart_frame.proofs.Common.{arith}
use Rattle.hart_frame.proofs.lemmas.scan.First.{none_first, some_first}
use Rattle.hart_frame.proofs.scan.first.has_frame.Goals as goal

pub returns-clause-some : goal.returns-clause-some
returns-clause-some c = grind (arith, some_first c.args.chars.now c.first_span.new.buffer)

pub returns-clause-none : goal.returns-clause-none
returns-clause-none c none = none_first c.args.chars.now c.first_span.new.buffer c.first_span.result (grind arith) c.first_span.ensures
