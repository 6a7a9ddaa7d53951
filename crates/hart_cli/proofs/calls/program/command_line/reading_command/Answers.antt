use Rattle.std.proofs.Common.{refl}
use Rattle.hart_cli.proofs.calls.program.command_line.reading_command.Goals as goal

pub returns : goal.returns
returns c =
    let serve = c.with_made-hart.ensures _ _ refl c.hearing_command-hart.ensures c.image_command.ensures in
    let master = c.with_made-hart-2.ensures _ _ refl serve c.master_command.ensures in
    c.with_made.ensures _ _ refl master c.image_command-2.ensures
