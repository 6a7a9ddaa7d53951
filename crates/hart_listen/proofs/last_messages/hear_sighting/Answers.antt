use Rattle.hart_listen.specs.LastMessages.{recalled}
use Rattle.hart_listen.proofs.lemmas.Before.{missed_alike}
use Rattle.hart_listen.proofs.last_messages.hear_sighting.Goals as goal

pub returns-in-Missed-clause-alike : goal.returns-in-Missed-clause-alike
returns-in-Missed-clause-alike c = rw c.in-Missed.is (missed_alike (recalled c.args.last.now) _ _ _)

pub returns-in-Message-clause-alike : goal.returns-in-Message-clause-alike
returns-in-Message-clause-alike c = rw c.in-Message.is c.hear_message.ensures.alike
