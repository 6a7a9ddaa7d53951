use Rattle.std.proofs.Common.{append_assoc, arith, length-append}
use Rattle.std.proofs.KnownBytes.{Consumes-trans}
use Rattle.hart_cli.proofs.input.read_into.Goals as goal

pub returns-in-Some-clause-reads : goal.returns-in-Some-clause-reads
returns-in-Some-clause-reads g c = grind (arith, Consumes-trans, append_assoc, length-append)
