use Rattle.hart_line.proofs.Common.{rules, err_from_is_err_and}
use Rattle.hart_line.proofs.lemmas.script.Rows.{fault_of_leg}
use Rattle.hart_line.proofs.script.rows.read_leg.Goals as goal

pub returns-in_err-read_items-in_default : goal.returns-in_err-read_items-in_default
returns-in_err-read_items-in_default c =
    let refused = err_from_is_err_and c.from_residual.result c.from_residual.ensures.1 in
    rw (refused.1, refused.2) (fault_of_leg c.args.word.now _ (search rules) c.in_err-read_items-in_default.ensures)
