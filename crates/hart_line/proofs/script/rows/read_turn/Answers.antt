use Rattle.hart_line.proofs.Common.{inl, inr, refl, err_from_is_err_and}
use Rattle.hart_line.proofs.lemmas.script.Rows.{fault_of_turn}
use Rattle.hart_line.proofs.script.rows.read_turn.Goals as goal

pub returns-in_err-read_leg : goal.returns-in_err-read_leg
returns-in_err-read_leg c =
    let refused = err_from_is_err_and c.from_residual-in_err-read_leg.result c.from_residual-in_err-read_leg.ensures.1 in
    rw (refused.1, refused.2) (fault_of_turn _ _ _ _ _ _ c.in-Some.ensures (inl refl) c.in_err-read_leg.ensures)

pub returns-in_err-read_leg-2 : goal.returns-in_err-read_leg-2
returns-in_err-read_leg-2 c =
    let refused = err_from_is_err_and c.from_residual-in_err-read_leg-2.result c.from_residual-in_err-read_leg-2.ensures.1 in
    rw (refused.1, refused.2) (fault_of_turn _ _ _ _ _ _ c.in-Some.ensures (inr refl) c.in_err-read_leg-2.ensures)
