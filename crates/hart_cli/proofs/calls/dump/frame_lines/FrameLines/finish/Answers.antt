use Rattle.hart_cli.proofs.lemmas.dump.FrameLines.{adds_rest}
use Rattle.hart_cli.proofs.calls.dump.frame_lines.FrameLines.finish.Goals as goal

pub returns : goal.returns
returns g c =
    let adds = rw c.as_slice-held.ensures.value at c.push_decided.ensures in
    (_, rw c.requires.none_kept at (adds_rest _ _ c.push_decided.result _ _ adds), rw c.as_slice.ensures.value at c.write_all.ensures)
