use Rattle.std.proofs.Common.{refl, ◌==◌}
use Rattle.std.proofs.lemmas.Simd.{zip2_splat}
use Rattle.hart_text.proofs.lemmas.Lines.{lanes_mark}
use Rattle.hart_text.proofs.lines.line_feeds.Goals as goal

pub returns : goal.returns
returns c = lanes_mark _ (λ byte. byte == 10) c.args.bytes _ c.fits-bytes (zip2_splat _ c.args.bytes 64 10 c.fits-bytes.0) refl
