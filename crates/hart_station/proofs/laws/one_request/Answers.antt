use Rattle.std.proofs.Common.{arith, ◌≡◌}
use Rattle.std.proofs.lemmas.Grind.{common_steps}
use Rattle.hart_station.proofs.lemmas.OneWay.{bad_word_parts, messages_have_one_line}
use Rattle.hart_station.proofs.laws.one_request.Goals as goal

pub returns-clause-one_text : goal.returns-clause-one_text
returns-clause-one_text c words xs ys p q =
    let frames : p.frame ≡ q.frame = grind (arith, common_steps) in messages_have_one_line q.frame _ xs ys (rw frames at p.line) q.line

pub returns-clause-one_bad_word : goal.returns-clause-one_bad_word
returns-clause-one_bad_word c words m n p q = grind (arith, bad_word_parts words m p, bad_word_parts words n q)

pub returns-clause-one_bad_field : goal.returns-clause-one_bad_field
returns-clause-one_bad_field c words a b p q = grind (arith, common_steps)

pub returns-clause-no_bad_word : goal.returns-clause-no_bad_word
returns-clause-no_bad_word c words xs number p q = grind (arith, bad_word_parts words number q)

pub returns-clause-no_bad_field : goal.returns-clause-no_bad_field
returns-clause-no_bad_field c words xs bad p q = grind (arith, common_steps)

pub returns-clause-not_both : goal.returns-clause-not_both
returns-clause-not_both c words number bad p q = grind (arith, bad_word_parts words number p)
