use Rattle.std.proofs.Common.{refl}
use Rattle.hart_listen.proofs.lemmas.Listener.{hears_silence}
use Rattle.hart_listen.proofs.listener.Listener.hear_silence.Goals as goal

pub returns-clause-hears : goal.returns-clause-hears
returns-clause-hears g c =
    hears_silence g.T.Teller.told c.args.self.now c.tell_held.new.self _ _ _ c.tell_held.ensures.hears (c.tell_held.ensures.ended refl)
    c.hear_silence.ensures refl refl refl
