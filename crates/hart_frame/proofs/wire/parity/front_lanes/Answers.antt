use Rattle.hart_frame.proofs.Common.{List, Bool, ltb, replicate, ap, ◌∙◌, arith, range_with_len}
use Rattle.std.proofs.Common.{w8}
use Rattle.std.proofs.lemmas.Simd.{tops_compared}
use Rattle.std.specs.Simd.Lanes.{sel_l}
use Rattle.hart_frame.proofs.lemmas.wire.Lane.{kept}
use Rattle.hart_frame.proofs.wire.parity.front_lanes.Goals as goal

pub returns : goal.returns
returns c =
    let block = c.args.block.now in
    let count = c.args.count in
    ap (λ (kept : List Bool). sel_l kept block (replicate 16 0)) (tops_compared w8 ltb (range_with_len 0 16) (replicate 16 count))
    ∙ kept 0 count count 16 block c.told-block c.requires (omega arith)
