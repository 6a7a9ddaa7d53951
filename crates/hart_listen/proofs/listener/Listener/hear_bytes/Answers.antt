use Rattle.std.proofs.Common.{refl}
use Rattle.hart_listen.proofs.lemmas.Listener.{hears_bytes}
use Rattle.hart_listen.proofs.listener.Listener.hear_bytes.Goals as goal

pub returns-clause-hears : goal.returns-clause-hears
returns-clause-hears g c =
    hears_bytes g.T.Teller.told c.args.self.now _ c.tell_held.new.self c.args.bytes.now _ _ refl refl refl c.extend_from_slice.ensures
    c.tell_held.ensures.hears
