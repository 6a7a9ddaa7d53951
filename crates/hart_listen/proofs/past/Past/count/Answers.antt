use Rattle.std.proofs.Common.{refl}
use Rattle.hart_listen.proofs.lemmas.Preambles.{at_held}
use Rattle.hart_listen.proofs.past.Past.count.Goals as goal

pub returns-clause-count : goal.returns-clause-count
returns-clause-count c earlier is =
    let place = at_held c.args.self.now.preambles c.args.first c.args.held.now c.in-Message.found.start in
    rw (c.in-Message.is, c.min.ensures, c.preambles_of_message-heard.ensures, c.saturating_sub-own.ensures, place, is) refl
