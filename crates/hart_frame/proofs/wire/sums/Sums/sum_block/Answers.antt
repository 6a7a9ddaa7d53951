use Rattle.hart_frame.proofs.Common.{◌≡◌, ◌+◌, ◌-◌, length, take, drop, arith, bit_xor, get_or, length-take-le, length-drop, refl}
use Rattle.hart_frame.proofs.Common.{replicate, sym, ◌∙◌}
use Rattle.std.proofs.lemmas.Simd.{put_chunk_whole, length-zip2}
use Rattle.std.specs.Simd.Lanes.{zip2}
use Rattle.hart_frame.proofs.lemmas.wire.Sums.{sums_block}
use Rattle.hart_frame.proofs.wire.sums.Sums.sum_block.Goals as goal

pub returns-clause-sums : goal.returns-clause-sums
returns-clause-sums c =
    let bytes = c.args.bytes.now in
    let sums = c.args.self.now in
    let is = c.requires.sums in
    let n = sums.to - sums.from in
    let part : n + 1 + 16 - (n + 1) ≡ 16 = omega arith in
    let wide = c.running_checks.ensures.len in
    let full : length (take 16 (drop (n + 1) sums.checks)) ≡ 16 =
    length-take-le 16 (drop (n + 1) sums.checks) (omega (arith, length-drop (n + 1) sums.checks, is.full, c.requires.room, is.order)) in
    let each = c.running_checks.ensures.checks in
    let added = zip2 bit_xor (replicate 16 (get_or sums.checks n 0)) c.running_checks.result in
    let added_wide : length added ≡ 16 = length-zip2 bit_xor (replicate 16 (get_or sums.checks n 0)) c.running_checks.result (sym wide) in
    rw (part, put_chunk_whole (take 16 (drop (n + 1) sums.checks)) added (full ∙ sym added_wide))
    (sums_block bytes sums c.running_checks.result added is c.requires.within c.requires.room wide each refl)
