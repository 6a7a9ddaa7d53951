use Rattle.std.proofs.Common.{refl}
use Rattle.std.proofs.lemmas.List.{take_rest}
use Rattle.hart_cli.proofs.lemmas.dump.FrameLines.{heard_in_place}
use Rattle.hart_cli.proofs.calls.dump.frame_lines.FrameLines.hear_in_place.Goals as goal

pub returns : goal.returns
returns c =
    let (hears, waiting) = heard_in_place c.args.self.now _ c.args.bytes.now c.push_decided-used.result c.requires.empty
    c.push_decided-used.ensures refl (rw (c.extend_from_slice.ensures, take_rest) refl) in record { hears = hears; waiting = waiting }
