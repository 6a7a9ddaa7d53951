use Rattle.hart_text.specs.Lines.{is_blank}
use Rattle.std.proofs.Common.{refl}
use Rattle.std.proofs.lemmas.Simd.{zip2_of_maps, zip2_splat}
use Rattle.hart_text.proofs.lemmas.Lines.{lanes_mark}
use Rattle.hart_text.proofs.lines.blanks.Goals as goal

pub returns : goal.returns
returns c =
    let bytes = c.args.bytes in
    let both = zip2_of_maps _ _ _ bytes (zip2_splat _ bytes 64 32 c.fits-bytes.0) (zip2_splat _ bytes 64 9 c.fits-bytes.0) in
    lanes_mark _ is_blank bytes _ c.fits-bytes both refl
