use Rattle.std.proofs.Common.{◌≡◌, arith, false, true}
use Rattle.std.proofs.lemmas.Bool.Decides.{nat_tests}
use Rattle.std.specs.Prelude.{nat_lt}
use Rattle.hart_explain.proofs.lemmas.Extended.{extending}
use Rattle.hart_explain.proofs.words.status.push_status.Goals as goal

pub returns-then-first-lt128 : goal.returns-then-first-lt128
returns-then-first-lt128 c =
    let below : nat_lt c.args.first 128 ≡ true = grind (arith, nat_tests) in
    rw (
      below,
      c.push_byte.ensures,
      c.push_names.ensures,
      c.new.ensures,
      c.push_text.ensures,
      c.push_named_number.ensures,
      c.code_name.ensures.name,
      c.push_name.ensures,
    ) (simp extending)

pub returns-else-first-lt128 : goal.returns-else-first-lt128
returns-else-first-lt128 c =
    let above : nat_lt c.args.first 128 ≡ false = grind (arith, nat_tests) in
    rw (
      above,
      c.push_byte-else-first-lt128.ensures,
      c.push_names-else-first-lt128.ensures,
      c.new-else-first-lt128.ensures,
      c.push_name-else-first-lt128.ensures,
    ) (simp extending)
