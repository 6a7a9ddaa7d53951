use Rattle.std.proofs.Common.{◌<◌, get_or, length, arith}
use Rattle.std.proofs.lemmas.Grind.{common_steps}
use Rattle.std.proofs.lemmas.List.Elements.{All-more}
use Rattle.hart_text.specs.Heard.{IsVisible}
use Rattle.hart_text.proofs.marks.visible_len.Goals as goal

pub loop-len-preserved : goal.loop-len-preserved
loop-len-preserved c =
    let below : c.loop-len.len < length c.args.text.now = grind (arith, common_steps) in
    let one : IsVisible (get_or c.args.text.now c.loop-len.len 0) = grind (arith, common_steps) in
    record {
      within = omega (arith, below);
      visible = All-more IsVisible c.args.text.now c.loop-len.len 0 below c.loop-len.invariant.visible one;
    }
