use Rattle.hart_frame.proofs.Common.{◌≡◌, ◌+◌, get_or, length, arith, common_steps, slice_range, FrameParts, body_length, address_of}
use Rattle.hart_frame.proofs.lemmas.wire.BodiesFound.{long_enough}
use Rattle.hart_frame.proofs.lemmas.wire.Body.{IsBody-whole, IsCheckedPart-in, StandsByLayout}
use Rattle.hart_frame.proofs.wire.view.FrameView.view_in.Goals as goal

pub returns : goal.returns
returns c =
    let bytes = c.args.bytes.now in
    let layout = c.args.layout in
    let body = c.requires.body in
    let place = c.from-command_place.result + 2 in
    let frame : FrameParts = record {
      kind = layout.kind;
      master = c.unwrap-master.result.0;
      burst = c.unwrap-master.result.1;
      address = address_of c.plain_of.result;
      expansion = slice_range bytes c.from-address_end.result c.from-command_place.result;
      command = get_or bytes c.from-command_place.result 0;
      payload = slice_range bytes place (place + c.from.result);
    } in
    let stands : StandsByLayout bytes layout frame = grind (arith, long_enough) in
    let exact : body_length bytes ≡ length bytes = omega (arith, body.described, body.exact) in
    grind (arith, common_steps, IsBody-whole, IsCheckedPart-in bytes layout frame body.described body.checked stands)
