use Rattle.std.proofs.Common.{arith}
use Rattle.std.proofs.lemmas.Result.{IfOk-weaker}
use Rattle.clap.proofs.SimpleLemmas.{plain_fields}
use Rattle.hart_cli.proofs.calls.program.command_line.with_made.Goals as goal

pub returns : goal.returns
returns c outer inner plain outer-is inner-is = grind (arith, IfOk-weaker, plain_fields, plain, outer-is, inner-is)
