use Rattle.std.proofs.Common.{◌≡◌, arith, false, true}
use Rattle.std.proofs.lemmas.Bool.Decides.{nat_tests}
use Rattle.std.specs.Prelude.{nat_lt}
use Rattle.json.specs.Print.{escape_byte}
use Rattle.hart_explain.specs.Json.{further_member}
use Rattle.hart_explain.proofs.lemmas.Extended.{also, last}
use Rattle.hart_explain.proofs.objects.status.push_status.Goals as goal

pub returns-then-first-lt128 : goal.returns-then-first-lt128
unfolding escape_byte further_member
returns-then-first-lt128 c =
    let below : nat_lt c.args.first 128 ≡ true = grind (arith, nat_tests) in
    let number = rw c.from.ensures at c.push_number.ensures.number in
    let name = rw c.code_name.ensures.name at c.push_name.ensures in
    let names = rw c.new.ensures at c.push_names.ensures in
    let states =
    also _ _ _ _ _ c.push_text-then-first-lt128-3.ensures
    (also _ _ _ _ _ names (last _ _ _ c.push_text-then-first-lt128-4.ensures)) in
    rw below
    (also _ _ _ _ _ c.push_text.ensures (also _ _ _ _ _ c.push_quoted_hex.ensures (also _ _ _ _ _ c.push_text-then-first-lt128.ensures
    (also _ _ _ _ _ number (also _ _ _ _ _ c.push_text-then-first-lt128-2.ensures (also _ _ _ _ _ name states))))))

pub returns-else-first-lt128 : goal.returns-else-first-lt128
unfolding escape_byte further_member
returns-else-first-lt128 c =
    let above : nat_lt c.args.first 128 ≡ false = grind (arith, nat_tests) in
    let names = rw c.new-else-first-lt128.ensures at c.push_names-else-first-lt128.ensures in
    rw above
    (also _ _ _ _ _ c.push_text.ensures (also _ _ _ _ _ c.push_quoted_hex.ensures
    (also _ _ _ _ _ c.push_text-else-first-lt128.ensures (last _ _ _ names))))
