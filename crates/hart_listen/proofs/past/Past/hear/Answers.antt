use Rattle.std.proofs.Common.{refl}
use Rattle.hart_listen.proofs.past.Past.hear.Goals as goal

pub returns-clause-before : goal.returns-clause-before
returns-clause-before c earlier is =
    rw (c.hear_sighting-before.ensures.before, c.count-preambles.ensures.count earlier is, c.count-preambles.ensures.stop) refl

pub returns-clause-alike : goal.returns-clause-alike
returns-clause-alike c = rw c.count-preambles.ensures.stop at c.hear_sighting-before.ensures.alike
