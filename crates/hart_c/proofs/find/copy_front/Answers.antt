use Rattle.std.proofs.Common.{arith}
use Rattle.std.proofs.lemmas.Grind.{common_steps}
use Rattle.std.proofs.lemmas.List.{length-map, length-set, take-map, take_more, take_more_set}
use Rattle.hart_c.proofs.find.copy_front.Goals as goal

pub loop-place-preserved : goal.loop-place-preserved
loop-place-preserved c = grind (arith, common_steps, length-map, length-set, take-map, take_more, take_more_set)
