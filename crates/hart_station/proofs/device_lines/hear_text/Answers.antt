use Rattle.std.proofs.Common.{arith, drop, inr, length-drop, refl}
use Rattle.std.proofs.lemmas.Grind.{common_steps}
use Rattle.hart_station.proofs.device_lines.hear_text.Goals as goal

pub returns-then-place-text-clause-hears : goal.returns-then-place-text-clause-hears
returns-then-place-text-clause-hears c =
    let read = c.read_pieces-place.ensures in
    let place = c.read_pieces-place.result in
    inr (
      c.read_pieces-place.new.chars.items,
      place,
      record {
        rest = drop place c.args.text.now;
        reads = read.reads;
        begins = grind (arith, common_steps);
        more = grind (arith, common_steps, length-drop place c.args.text.now);
        no_piece = read.stops;
      },
      refl,
      c.bad_hex.ensures,
    )
