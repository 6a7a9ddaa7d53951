use Rattle.std.proofs.Common.{◌≡◌, arith, rules}
use Rattle.std.proofs.lemmas.Bool.Decides.{nat_tests}
use Rattle.std.proofs.lemmas.Iterator.{YieldsList-from_slice}
use Rattle.std.proofs.lemmas.Iterator.Search.{find_from_yields_List}
use Rattle.std.specs.Bool.{◌==◌}
use Rattle.std.specs.List.{find}
use Rattle.std.specs.Option.{option_map}
use Rattle.hart_commands.specs.Commands.{seen_command}
use Rattle.hart_commands.proofs.lemmas.Rows.{find-map}
use Rattle.hart_commands.proofs.commands.find_row.Goals as goal

-- The row that the code finds is the row that the definitions find: the first row with this number.
pub returns : goal.returns
returns c =
    let first : option_map (λ row. row.now) c.find.result ≡ find (λ row. row.number == c.args.command) c.args.rows.now =
    find_from_yields_List (λ row. row.number == c.args.command) _ _ c.find.result c.find.ensures.ran
    (YieldsList-from_slice _ c.iter.ensures.rest) (λ x b q k. search (rules, nat_tests)) in
    let others = find-map seen_command (λ row. row.number == c.args.command) c.args.rows.now in
    grind (arith, first, others)
