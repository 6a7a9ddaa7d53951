-- An input of items has one list of characters.
use Rattle.std.proofs.Common.{◌≡◌, ℕ, List, Option}
use Rattle.hart_frame.specs.heard.Character.{Character}
use Rattle.hart_text.specs.Items.{NoPieceBegins, ReadsUpTo}
use Rattle.hart_text.proofs.lemmas.Items.{item_laws}
use Rattle.hart_cli.specs.declared.fault.CliFault.{CliFault}
use Rattle.hart_cli.specs.input.Input.{Ending}
use Rattle.hart_cli.specs.input.InputChars.{HasChars}
use Rattle.hart_cli.proofs.lemmas.input.Reads.{one_hearing}

-- an input has only one list of characters, and only one fault
pub one_input : (text : List ℕ) (ending : Ending) (xs ys : List Character) (f g : Option CliFault)
    → HasChars text ending xs f → HasChars text ending ys g → (xs ≡ ys) × (f ≡ g)
one_input = one_hearing ReadsUpTo NoPieceBegins item_laws
