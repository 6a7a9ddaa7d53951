use Rattle.hart_frame.proofs.Common.{arith, not}
use Rattle.hart_frame.proofs.lemmas.scan.Search.{looked_from, looked_on}
use Rattle.hart_frame.proofs.scan.search.search_to_end.Goals as goal

pub loop-found-init : goal.loop-found-init
loop-found-init c =
    looked_from c.args.bytes.now c.args.from c.args.from c.args.ended c.search-found.result (omega arith)
    (λ place after before. absurd (omega (arith, after, before))) c.search-found.ensures

pub loop-found-preserved : goal.loop-found-preserved
loop-found-preserved c =
    grind (arith, looked_on c.args.bytes.now c.args.from c.args.ended c.loop-found.found c.search-found-in-loop-found.result, not)
