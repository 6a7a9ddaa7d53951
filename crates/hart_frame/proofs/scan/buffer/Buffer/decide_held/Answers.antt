use Rattle.hart_frame.proofs.Common.{◌<◌, length, arith, rules, IsHeldOpen, common_steps}
use Rattle.hart_frame.proofs.lemmas.scan.Decision.{given_nothing, given_open, given_stands}
use Rattle.hart_frame.proofs.scan.buffer.Buffer.decide_held.Goals as goal

pub returns-in-Some-clause-seen : goal.returns-in-Some-clause-seen
returns-in-Some-clause-seen c = grind (arith, common_steps, given_stands)

pub returns-then-is_empty-clause-seen : goal.returns-then-is_empty-clause-seen
returns-then-is_empty-clause-seen c = search (arith, given_nothing)

pub returns-else-is_empty-clause-seen : goal.returns-else-is_empty-clause-seen
returns-else-is_empty-clause-seen c =
    let some : 0 < length c.held.result.now = search rules in
    let opened : IsHeldOpen c.args.self.now c.search_held-found.result.place = search rules in
    rw c.pass.ensures.passed (given_open c.args.self.now _ c.search_held-found.ensures opened (search (arith, some)))
