use Rattle.std.proofs.Common.{◌==◌, ◌∙◌, sym}
use Rattle.hart_commands.specs.Commands.{commands, known}
use Rattle.hart_commands.specs.Fields.{text}
use Rattle.hart_commands.proofs.lemmas.Rows.{find-map}
use Rattle.hart_commands.proofs.commands.row_for.Goals as goal

-- The rows of the table in the code are the commands of the table in the definitions.
pub returns : goal.returns
unfolding text known
returns c = c.find_row.ensures ∙ sym (find-map (λ row. row.command) (λ command. command.number == c.args.command) commands)
