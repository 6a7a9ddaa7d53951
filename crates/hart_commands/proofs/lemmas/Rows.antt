-- What is true of every row of a table is true of the row that is found.
use Rattle.std.proofs.Common.{arith, ◌≡◌, ℕ, Bool, ◌==◌, List, [], ◌∷◌, map, refl, Option, None, Some, IfSome}
use Rattle.std.proofs.lemmas.Bool.Decides.{nat_tests}
use Rattle.std.specs.List.{AllByRecursion, find}
use Rattle.std.specs.Option.{option_map}
use Rattle.hart_commands.specs.Commands.{Command, CommandRow, commands, known}

pub by_row : (P : CommandRow → Type 0) (Q : Option CommandRow → Type 0) (rows : List CommandRow) (number : ℕ) → AllByRecursion P rows
    → Q None → ((row : CommandRow) → row.command.number ≡ number → P row → Q (Some row))
    → Q (find (λ row. row.command.number == number) rows)
by_row P Q [] number all none some = none
by_row P Q (row ∷ rows) number all none some =
    grind (arith, nat_tests, some row, by_row P Q rows number all.1 none some)

-- If rows are mapped, the first mapped row that passes a test comes from the first row whose mapped form passes it.
pub find-map : {X Y : Type 0} (v : X → Y) (p : Y → Bool) (xs : List X) → option_map v (find (λ x. p (v x)) xs) ≡ find p (map v xs)
find-map v p [] = refl
find-map v p (x ∷ xs) = grind (arith, find-map v p xs)

-- What is true of every command of the table is true of each command that is known by its number.
pub of_known : (P : Command → Type 0) (number : ℕ) → AllByRecursion (λ row. P row.command) commands
    → IfSome (known number) (λ command. (command.number ≡ number) × P command)
unfolding known
of_known P number all = by_row (λ row. P row.command)
    (λ row. IfSome (option_map (λ row. row.command) row) (λ command. (command.number ≡ number) × P command)) commands number all tt
    (λ row same is. (same, is))
