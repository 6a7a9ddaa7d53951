use Rattle.std.proofs.Common.{arith, drop, inr, length-drop}
use Rattle.std.proofs.lemmas.Grind.{common_steps}
use Rattle.hart_station.proofs.master_lines.MasterLines.hear_items.Goals as goal

pub returns-then-place-items : goal.returns-then-place-items
returns-then-place-items c =
    let read = c.read_pieces-place.ensures in
    let place = c.read_pieces-place.result in
    inr (
      c.read_pieces-place.new.chars.items,
      place,
      record {
        rest = drop place c.args.items.now;
        reads = read.reads;
        begins = grind (arith, common_steps);
        more = grind (arith, common_steps, length-drop place c.args.items.now);
        no_piece = read.stops;
      },
      c.self.view_is,
      c.bad_line.ensures,
    )
