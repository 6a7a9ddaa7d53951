use Rattle.std.proofs.Common.{arith}
use Rattle.std.proofs.lemmas.Result.{IfOk-weaker}
use Rattle.hart_cli.proofs.calls.program.command_line.with_arg.Goals as goal

pub returns : goal.returns
returns c app rule app-is rule-is = grind (arith, IfOk-weaker, app-is, rule-is)
