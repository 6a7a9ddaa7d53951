use Rattle.std.proofs.Common.{◌∙◌, ap, length, refl}
use Rattle.std.proofs.lemmas.List.{length-map}
use Rattle.std.proofs.lemmas.Simd.{splat_is_map, zip2_of_maps, zip2_splat}
use Rattle.hex.specs.Hex.{is_hex_digit}
use Rattle.hart_text.specs.Item.{hex_value}
use Rattle.hart_text.proofs.lemmas.Lanes.{mask_is, selected_is, values_are}
use Rattle.hart_text.proofs.digit_lanes.digit_lanes.Goals as goal

pub returns : goal.returns
returns c =
    let v = c.args.bytes in
    let long = c.fits-bytes.0 in
    let numbers = zip2_splat _ v 16 48 long in
    let are_numbers = zip2_of_maps _ _ _ v numbers (splat_is_map v 16 10 long) in
    let letters = zip2_of_maps _ _ _ v (zip2_splat _ v 16 32 long) (splat_is_map v 16 97 long) in
    let are_letters = zip2_of_maps _ _ _ v letters (splat_is_map v 16 6 long) in
    let values = selected_is _ _ _ v _ _ _ are_numbers numbers (zip2_of_maps _ _ _ v letters (splat_is_map v 16 10 long)) in
    record {
      long = ap length values ∙ (length-map v _ ∙ long);
      digits = mask_is _ is_hex_digit v _ c.fits-bytes (zip2_of_maps _ _ _ v are_numbers are_letters) refl;
      value = values_are _ hex_value is_hex_digit v _ c.fits-bytes values refl;
    }
