use Rattle.std.proofs.Common.{◌∙◌, Some, arith, codes, sym}
use Rattle.std.proofs.lemmas.Bool.Decides.{Decides-eqb}
use Rattle.std.proofs.lemmas.Grind.{common_steps}
use Rattle.std.proofs.lemmas.Slice.Eq.{strip_prefix_is}
use Rattle.hart_station.proofs.lemmas.MasterLines.{are_items, items_in}
use Rattle.hart_station.proofs.master_lines.items_of.Goals as goal

pub returns-clause-items : goal.returns-clause-items
returns-clause-items c = λ line is.
    let whole = strip_prefix_is Decides-eqb c.args.text.now (codes "heard") (Some c.in_ok-items.items) c.in_ok-items.ensures.cases in
    let h = items_in line c.in_ok-items.items.now (sym is ∙ whole) in
    (h.given, are_items line c.in_ok-items.items.now h (grind (arith, common_steps, c.begins_blank.ensures)), h.closed)
