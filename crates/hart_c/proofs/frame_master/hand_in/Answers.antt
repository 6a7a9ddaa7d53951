use Rattle.std.proofs.Common.{arith}
use Rattle.hart_c.proofs.Masters.{has_transaction}
use Rattle.hart_c.proofs.frame_master.hand_in.Goals as goal

pub returns-in_err-transaction_in-in-1-clause-none : goal.returns-in_err-transaction_in-in-1-clause-none
returns-in_err-transaction_in-in-1-clause-none c hand is =
    let asked = has_transaction c.args.master.now hand (grind (arith, c.in-1.is)) is in
    let none = c.in_err-transaction_in-in-1.ensures.none asked.0 asked.1 in grind arith

pub returns-in_err-transaction_in-in-2-clause-none : goal.returns-in_err-transaction_in-in-2-clause-none
returns-in_err-transaction_in-in-2-clause-none c hand is =
    let asked = has_transaction c.args.master.now hand (grind (arith, c.in-2.is)) is in
    let none = c.in_err-transaction_in-in-2.ensures.none asked.0 asked.1 in grind arith

pub returns-in_err-transaction_in-in-3-clause-none : goal.returns-in_err-transaction_in-in-3-clause-none
returns-in_err-transaction_in-in-3-clause-none c hand is =
    let asked = has_transaction c.args.master.now hand (grind (arith, c.in-3.is)) is in
    let none = c.in_err-transaction_in-in-3.ensures.none asked.0 asked.1 in grind arith
