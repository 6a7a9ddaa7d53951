use Rattle.hart_line.proofs.Common.{err_from_is_err_and}
use Rattle.hart_line.proofs.lemmas.script.Rows.{fault_of_noise}
use Rattle.hart_line.proofs.script.rows.read_noise.Goals as goal

pub returns-in_err-read_items : goal.returns-in_err-read_items
returns-in_err-read_items c =
    let refused = err_from_is_err_and c.from_residual.result c.from_residual.ensures.1 in
    rw (refused.1, refused.2) (fault_of_noise _ _ _ c.in-Some.ensures c.in_err-read_items.ensures)
