use Rattle.std.proofs.Common.{Bool, ℕ, ◌==◌, ◌||◌, arith, refl}
use Rattle.std.proofs.lemmas.Simd.{zip2_of_maps, zip2_splat}
use Rattle.hart_text.proofs.lemmas.Lanes.{mask_is}
use Rattle.hart_text.proofs.digit_lanes.separator_lanes.Goals as goal

-- whether a byte is a separator
abbrev is_gap : ℕ → Bool
is_gap byte = byte == 32 || (byte == 9 || (byte == 13 || byte == 10))

pub returns : goal.returns
returns c =
    let v = c.args.bytes in
    let long = c.fits-bytes.0 in
    let first = zip2_of_maps _ _ _ v (zip2_splat _ v 16 32 long) (zip2_splat _ v 16 9 long) in
    let second = zip2_of_maps _ _ _ v first (zip2_splat _ v 16 13 long) in
    let third = zip2_of_maps _ _ _ v second (zip2_splat _ v 16 10 long) in
    let mask = mask_is _ is_gap v _ c.fits-bytes third refl in
    record { small = mask.small; bits = λ lane below. grind (arith, mask.bits lane below) }
