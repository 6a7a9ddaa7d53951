use Rattle.std.proofs.Common.{arith}
use Rattle.std.proofs.lemmas.Result.{IfOk-weaker}
use Rattle.std.proofs.Common.{refl}
use Rattle.hart_cli.proofs.calls.program.command_line.hart_command.Goals as goal

pub returns : goal.returns
returns c =
    let hart = c.in_ok-hart.ensures _ _ refl c.asking_command.ensures c.encode_command.ensures in
    grind (arith, IfOk-weaker, hart)
