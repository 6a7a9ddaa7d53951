use Rattle.hart_frame.proofs.Common.{arith}
use Rattle.hart_frame.proofs.lemmas.wire.Reading.{cut_truncated, wrong_refused}
use Rattle.hart_frame.proofs.lemmas.wire.Refusal.{only}
use Rattle.hart_frame.proofs.wire.body.decode.Goals as goal

pub returns-in-Whole-clause-accepts : goal.returns-in-Whole-clause-accepts
returns-in-Whole-clause-accepts c = grind arith

pub returns-in-Whole-clause-only : goal.returns-in-Whole-clause-only
returns-in-Whole-clause-only c = only c.args.bytes.now _ (returns-in-Whole-clause-accepts c) tt

pub returns-in-Cut-clause-refused : goal.returns-in-Cut-clause-refused
returns-in-Cut-clause-refused c = cut_truncated c.args.bytes.now _ c.in-Cut.ensures

pub returns-in-Cut-clause-only : goal.returns-in-Cut-clause-only
returns-in-Cut-clause-only c = only c.args.bytes.now _ tt (returns-in-Cut-clause-refused c)

pub returns-in-Wrong-clause-refused : goal.returns-in-Wrong-clause-refused
returns-in-Wrong-clause-refused c = grind (arith, wrong_refused c.args.bytes.now c.in-Wrong.wrong)

pub returns-in-Wrong-clause-only : goal.returns-in-Wrong-clause-only
returns-in-Wrong-clause-only c = only c.args.bytes.now _ tt (returns-in-Wrong-clause-refused c)
