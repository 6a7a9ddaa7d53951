use Rattle.std.proofs.Common.{◌≡◌, rules, ℕ, List, Option, Some, IfSome, IsSome, arith, is_some}
use Rattle.std.proofs.lemmas.Bool.Decides.{nat_tests}
use Rattle.std.proofs.lemmas.Grind.{common_steps}
use Rattle.std.specs.List.{AllByRecursion, find}
use Rattle.std.specs.Option.{option_map}
use Rattle.std.specs.Prelude.{bytes_eq}
use Rattle.hart_commands.specs.Commands.{Command, command_name, commands, is_known, known}
use Rattle.hart_commands.specs.Fields.{text}
use Rattle.hart_commands.proofs.lemmas.Rows.{of_known}
use Rattle.hart_commands.proofs.laws.known_commands_have_names.Goals as goal

named_if_known : (command : ℕ) → is_some (command_name command) ≡ is_known command
unfolding known
named_if_known command = grind (arith, nat_tests)

-- the number of the first row that has this name
abbrev pub number_of : List ℕ → Option ℕ
number_of name = option_map (λ row. row.command.number) (find (λ row. bytes_eq row.command.name name) commands)

abbrev pub IsNamed : Command → Type 0
IsNamed command = number_of command.name ≡ Some command.number

named : AllByRecursion (λ row. IsNamed row.command) commands
unfolding text
named = search rules

-- if each command has a name of its own, commands with the same name have the same number
names_differ : (number : List ℕ → Option ℕ) (command other : ℕ)
    → IfSome (known command) (λ told. (told.number ≡ command) × (number told.name ≡ Some told.number))
    → IfSome (known other) (λ told. (told.number ≡ other) × (number told.name ≡ Some told.number))
    → IsSome (command_name command) → command_name command ≡ command_name other → command ≡ other
names_differ number command other is of_other some e = grind (arith, common_steps)

pub returns : goal.returns
returns c = record {
  known = named_if_known;
  different = λ command other.
      names_differ number_of command other (of_known IsNamed command named) (of_known IsNamed other named);
}
