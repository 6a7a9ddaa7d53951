use Rattle.hart_frame.proofs.Common.{arith, take_rest}
use Rattle.hart_frame.proofs.lemmas.scan.First.{first_later, no_later}
use Rattle.hart_frame.proofs.scan.first.first_frame.Goals as goal

pub returns-in_err-found-clause-first : goal.returns-in_err-found-clause-first
returns-in_err-found-clause-first c =
    rw c.from_residual-in_err-found.ensures
    (no_later c.args.chars.now c.in_ok-get.field-0.now c.args.from (grind arith) (grind (arith, take_rest)) c.in_err-found.ensures)

pub returns-clause-first : goal.returns-clause-first
returns-clause-first c = grind (arith, first_later c.args.chars.now c.in_ok-get.field-0.now c.args.from c.in_ok-found.found, take_rest)
