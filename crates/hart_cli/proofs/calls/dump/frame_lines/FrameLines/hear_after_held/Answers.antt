use Rattle.std.proofs.Common.{refl}
use Rattle.hart_frame.specs.heard.Character.{faultless}
use Rattle.hart_cli.specs.dump.FrameLines.{Hears, IsWaiting}
use Rattle.hart_cli.proofs.lemmas.dump.FrameLines.{heard_bytes}
use Rattle.hart_cli.proofs.calls.dump.frame_lines.FrameLines.hear_after_held.Goals as goal

pub returns : goal.returns
returns c =
    let heard : Hears c.args.self.now c.let_go.new.self (faultless c.args.bytes.now) × IsWaiting c.let_go.new.self.held =
    rw c.let_go.ensures (heard_bytes c.args.self.now _ c.args.bytes.now c.push_decided-used.result
    (rw (c.as_slice-held.ensures.value, c.extend_from_slice.ensures) at c.push_decided-used.ensures) refl
    (rw c.extend_from_slice.ensures refl)) in record { hears = heard.0; waiting = heard.1 }
