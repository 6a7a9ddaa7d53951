use Rattle.hart_frame.proofs.Common.{◌<◌, arith, append_assoc, drop_at, take_rest, All-drop}
use Rattle.hart_frame.proofs.lemmas.wire.Body.{IsBody-push}
use Rattle.hart_frame.proofs.wire.message.push_body.Goals as goal

pub returns : goal.returns
returns g c =
    let bytes = c.as_slice.result.now in
    let start = c.len-start.result in
    let fits = All-drop (λ byte. byte < 256) start bytes c.as_slice.ensures.bytes in
    grind (arith, IsBody-push, append_assoc, take_rest bytes start, drop_at)
