use Rattle.std.proofs.Common.{arith, drop, get_or, refl}
use Rattle.std.proofs.lemmas.Grind.{common_steps}
use Rattle.hart_text.specs.Items.{Item, Separator}
use Rattle.hart_text.proofs.items.leading_piece.Goals as goal

pub returns-then-is_separator : goal.returns-then-is_separator
returns-then-is_separator c =
    let text = c.args.text.now in
    record { piece = Separator (get_or text 0 0); tail = drop 1 text; begins = grind (arith, common_steps); long = refl; means = refl }

pub returns : goal.returns
returns c =
    let item = c.in_ok-item.ensures in
    record { piece = Item item.item; tail = item.tail; begins = grind (arith, common_steps); long = item.long; means = cc item.means }
