use Rattle.std.proofs.Common.{◌≡◌, ◌+◌, ◌-◌, arith, drop, refl, take}
use Rattle.hart_listen.proofs.lemmas.Listener.{hears_date}
use Rattle.hart_listen.proofs.listener.Listener.hear_mark.Goals as goal

pub returns-in-Date-clause-hears : goal.returns-in-Date-clause-hears
returns-in-Date-clause-hears g c =
    let same : c.in-Date.len + 1 - 1 ≡ c.in-Date.len = omega arith in
    rw c.in-Date.is (hears_date g.T.Teller.told c.args.self.now _ (take c.in-Date.len (drop 1 c.args.text.now)) _
    c.requires.waiting.dated refl refl refl c.hear.ensures.held (rw same at c.hear.ensures.last))
