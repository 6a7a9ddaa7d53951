use Rattle.std.proofs.Common.{refl}
use Rattle.hart_cli.proofs.calls.program.command_line.hearing_command.Goals as goal

pub returns : goal.returns
returns c =
    let answer = c.with_made-hart.ensures _ _ refl c.hart_alone.ensures c.image_command.ensures in
    let dump = c.with_made-hart-2.ensures _ _ refl answer c.plain_command.ensures in
    c.with_made.ensures _ _ refl dump c.explain_command.ensures
