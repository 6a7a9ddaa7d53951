use Rattle.std.proofs.Common.{arith, ◌++◌, take}
use Rattle.std.proofs.KnownBytes.{Appends-trans}
use Rattle.std.proofs.lemmas.Grind.{common_steps}
use Rattle.std.proofs.lemmas.List.{take_rest}
use Rattle.hart_cli.proofs.output.write_all.Goals as goal

pub loop-rest-preserved : goal.loop-rest-preserved
loop-rest-preserved g c = record {
  written = c.loop-rest.invariant.written ++ take c.in_ok-taken.taken c.loop-rest.rest.now;
  split = grind (arith, common_steps, take_rest);
  appended = grind (arith, Appends-trans);
  failures = grind arith;
}
