use Rattle.hart_listen.proofs.lemmas.Listener.{hears_nothing}
use Rattle.hart_listen.proofs.listener.Listener.hear_char.Goals as goal

pub returns-in-None-clause-hears : goal.returns-in-None-clause-hears
returns-in-None-clause-hears g c = rw c.in-None.is (hears_nothing g.T.Teller.told c.args.self.now _)
