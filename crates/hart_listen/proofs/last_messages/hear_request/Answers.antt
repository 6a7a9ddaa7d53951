use Rattle.std.proofs.Common.{◌≡◌, arith, true}
use Rattle.std.proofs.lemmas.Grind.{common_steps}
use Rattle.hart_frame.specs.wire.View.{parts_of}
use Rattle.hart_listen.specs.Before.{same_request}
use Rattle.hart_listen.proofs.lemmas.Before.{repeats_same}
use Rattle.hart_listen.proofs.lemmas.Same.{request_same}
use Rattle.hart_listen.proofs.last_messages.hear_request.Goals as goal

pub returns-then-same_request-clause-kept : goal.returns-then-same_request-clause-kept
returns-then-same_request-clause-kept c =
    let frame = parts_of c.args.frame.now in
    let test : same_request c.last.inside.request.frame frame ≡ true = grind (arith, common_steps) in
    let counted = repeats_same c.last.inside.request frame test in
    let same = request_same c.last.inside.request.frame frame test in
    rw c.repeat_request.ensures.counted (grind (arith, common_steps, counted, same))
