use Rattle.std.proofs.Common.{◌≡◌, arith, rules}
use Rattle.std.proofs.lemmas.Bool.Decides.{nat_tests}
use Rattle.std.proofs.lemmas.Iterator.{YieldsList-from_slice}
use Rattle.std.proofs.lemmas.Iterator.Search.{find_from_yields_List}
use Rattle.std.specs.Bool.{◌==◌}
use Rattle.std.specs.List.{find}
use Rattle.std.specs.Option.{option_map}
use Rattle.hart_commands.specs.StatusBits.{seen_bit}
use Rattle.hart_commands.proofs.lemmas.Rows.{find-map}
use Rattle.hart_commands.proofs.status_bits.find_bit.Goals as goal

-- The bit that the code finds is the bit that the definitions find: the first one with this value.
pub returns : goal.returns
returns c =
    let first : option_map (λ bit. bit.now) c.find.result ≡ find (λ bit. bit.value == c.args.value) c.args.bits.now =
    find_from_yields_List (λ bit. bit.value == c.args.value) _ _ c.find.result c.find.ensures.ran
    (YieldsList-from_slice _ c.iter.ensures.rest) (λ x b q k. search (rules, nat_tests)) in
    let others = find-map seen_bit (λ bit. bit.value == c.args.value) c.args.bits.now in
    grind (arith, first, others)
