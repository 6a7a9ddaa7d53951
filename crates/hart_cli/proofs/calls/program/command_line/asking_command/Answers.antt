use Rattle.std.proofs.Common.{refl}
use Rattle.hart_cli.proofs.calls.program.command_line.asking_command.Goals as goal

pub returns : goal.returns
returns c = c.with_made.ensures _ _ refl c.reading_command.ensures c.request_command.ensures
