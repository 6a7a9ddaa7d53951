use Rattle.std.proofs.Common.{arith}
use Rattle.std.proofs.lemmas.Grind.{common_steps}
use Rattle.std.proofs.lemmas.List.{drop-drop, map-append, take_more_set, drop-set-lt, length-set, take-set}
use Rattle.std.proofs.lemmas.List.Elements.{All-append}
use Rattle.hart_frame.specs.scan.Streamed.{take_view, wait}
use Rattle.hart_c.proofs.find.fill.Goals as goal

pub returns-then-not-give-clause-so_far : goal.returns-then-not-give-clause-so_far
returns-then-not-give-clause-so_far c = grind (arith, common_steps, length-set, take-set, wait)

pub loop-count-preserved : goal.loop-count-preserved
loop-count-preserved c =
    let gives = c.give.ensures.found c.if-not-give.false in
    search (arith, common_steps, length-set, drop-set-lt, drop-drop, take_more_set, All-append, map-append, take_view, gives)
