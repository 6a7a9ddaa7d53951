use Rattle.std.proofs.Common.{inl, inr, refl}
use Rattle.hart_c.proofs.own.hart_hear_own.Goals as goal

pub returns-in-Some : goal.returns-in-Some
returns-in-Some c = inl
    (c.in-Some.ensures.asks c.show_frame.new.frame c.show_frame.ensures.found, c.show_frame.ensures.tidy, refl, refl, refl)

pub returns : goal.returns
returns c = inr (c.in_default.ensures.none refl, refl, refl, c.hart_hear-said.ensures)
