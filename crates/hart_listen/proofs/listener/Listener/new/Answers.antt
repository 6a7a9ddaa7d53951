use Rattle.std.proofs.Common.{refl}
use Rattle.hart_listen.specs.declared.listener.Listener.{Listener}
use Rattle.hart_listen.proofs.lemmas.Listener.{new_waits}
use Rattle.hart_listen.proofs.lemmas.Stands.{stands_none}
use Rattle.hart_listen.proofs.listener.Listener.new.Goals as goal

pub returns-clause-waiting : goal.returns-clause-waiting
returns-clause-waiting c = new_waits _ c.new.ensures c.new-2.ensures.held c.new-3.ensures

pub returns-clause-told : goal.returns-clause-told
returns-clause-told c =
    let made : Listener = record { held = c.new.result; first = 0; dates = c.new-2.result; past = c.new-3.result } in
    stands_none made refl c.new.ensures (λ place. c.new-2.ensures.none _) c.new-3.ensures
