use Rattle.std.proofs.Common.{◌≡◌, arith, false, true}
use Rattle.std.proofs.lemmas.Grind.{common_steps}
use Rattle.hart_cli.proofs.lemmas.explain.Printer.{takes_dropped, takes_written}
use Rattle.hart_cli.proofs.calls.explain.printer.Page.write.Goals as goal

pub returns-then-self-clause-takes : goal.returns-then-self-clause-takes
returns-then-self-clause-takes g c =
    let failed : c.args.self.now.failed ≡ true = grind (arith, common_steps) in takes_dropped c.args.self.now _ _ failed failed

pub returns-clause-takes : goal.returns-clause-takes
returns-clause-takes g c =
    let unfailed : c.args.self.now.failed ≡ false = grind (arith, common_steps) in
    takes_written c.args.self.now _ _ _ c.write_all-result.result unfailed c.clear-2.ensures (grind (arith, common_steps))
    (rw c.as_slice.ensures.value at c.write_all-result.ensures)
