use Rattle.std.proofs.Common.{◌≡◌, Err, arith, inl, inr, refl}
use Rattle.std.proofs.lemmas.Grind.{common_steps}
use Rattle.hart_c.specs.declared.fault.Fault.TheVariants.{NoRequest}
use Rattle.hart_c.proofs.master.asked_by.Goals as goal

pub returns-in_err-asked-clause-refused : goal.returns-in_err-asked-clause-refused
returns-in_err-asked-clause-refused c =
    let none = rw c.in_ok-frame.ensures.same at c.in_err-asked.ensures.refused.1 in
    let (address, (expansion, (payload, end))) = c.in_ok-frame.ensures.frame in
    let is : c.from_residual-in_err-asked.result ≡ Err NoRequest = grind (arith, common_steps, c.in_err-asked.ensures.refused.0) in
    rw is (inr (address, inr (expansion, inr (payload, inl (λ asked. none asked.0 asked.1, refl)))))
