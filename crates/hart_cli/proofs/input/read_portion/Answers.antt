use Rattle.std.proofs.Common.{◌≡◌, ◌≤◌, ◌+◌, ℕ, List, [], ◌∷◌, ◌++◌, length, take, get_or, arith}
use Rattle.std.proofs.lemmas.Grind.{common_steps}
use Rattle.hart_cli.specs.input.Input.{ReadsBeyond, ReadsWell}
use Rattle.hart_cli.specs.stream.Stream.{Stream}
use Rattle.hart_cli.proofs.input.read_portion.Goals as goal

-- a read that returned one byte more than the room went beyond the limit
past_room : (old new : Stream) (bytes : List ℕ) (given room : ℕ) → ReadsWell old new (take given bytes) → given ≡ room + 1
    → given ≤ length bytes → ReadsBeyond old new (take room bytes) × (length (take room bytes) ≡ room)
past_room old new bytes given room read one fits =
    let parts : take given bytes ≡ take room bytes ++ get_or bytes room 0 ∷ [] = grind (arith, common_steps) in
    grind (arith, common_steps)

pub returns-in-Ok-clause-reads : goal.returns-in-Ok-clause-reads
returns-in-Ok-clause-reads g c = grind (arith, common_steps, past_room)
