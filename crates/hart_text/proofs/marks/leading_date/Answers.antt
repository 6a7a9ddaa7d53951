use Rattle.std.proofs.Common.{◌≤◌, ◌<◌, ◌≡◌, ◌+◌, drop, get_or, length, inl, inr, ap, arith}
use Rattle.std.proofs.lemmas.Grind.{common_steps, get_or_after_one}
use Rattle.std.proofs.lemmas.List.{take_rest}
use Rattle.hart_text.specs.Heard.{NoMarkBegins}
use Rattle.hart_text.specs.Items.{IsSeparator}
use Rattle.hart_text.proofs.lemmas.Marks.{IsWrong, no_mark}
use Rattle.hart_text.proofs.marks.leading_date.Goals.{then-len-eq0-via-then-len-eq0, then-len-eq0-via-else-len-eq0+then-len-gt-DATE_LEN}
use Rattle.hart_text.proofs.marks.leading_date.Goals.{then-len-eq0-via-else-len-eq0+else-len-gt-DATE_LEN+then-not-is_separator}
use Rattle.hart_text.proofs.marks.leading_date.Goals as goal

pub returns-in_err-next-clause-mark : goal.returns-in_err-next-clause-mark
returns-in_err-next-clause-mark c =
    let text = c.args.text.now in
    let len = c.visible_len-len.result in
    let said = rw take_rest at c.visible_len-len.ensures in
    let past : length text ≤ 1 + len = grind (arith, common_steps) in
    let wrong : IsWrong (drop 1 text) len = inr (inr (λ below. absurd (omega (arith, past, below, ap length c.requires.at)))) in
    let none : NoMarkBegins text = no_mark text len c.requires.at said.visible said.stops said.within wrong in
    grind (arith, none)

pub returns-then-len-eq0-clause-mark : goal.returns-then-len-eq0-clause-mark
returns-then-len-eq0-clause-mark c =
    let text = c.args.text.now in
    let len = c.visible_len-len.result in
    let said = rw take_rest at c.visible_len-len.ensures in
    let wrong : IsWrong (drop 1 text) len = elim c.then-len-eq0.branch [
      | then-len-eq0-via-then-len-eq0 w ↦ let none : len ≡ 0 = grind (arith, common_steps) in inl none
      | then-len-eq0-via-else-len-eq0+then-len-gt-DATE_LEN w ↦ let most : 32 < len = grind (arith, common_steps) in inr (inl most)
      | then-len-eq0-via-else-len-eq0+else-len-gt-DATE_LEN+then-not-is_separator w ↦
          let other : IsSeparator (get_or (drop 1 text) len 0) → ⊥ = grind (arith, common_steps, get_or_after_one) in
          inr (inr (λ below. other))
    ] in
    no_mark text len c.requires.at said.visible said.stops said.within wrong
