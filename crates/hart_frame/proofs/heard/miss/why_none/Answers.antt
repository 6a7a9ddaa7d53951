use Rattle.hart_frame.proofs.Common.{◌≡◌, ◌<◌, ℕ, List, None, length, arith, take_rest, Character, miss_of, common_steps}
use Rattle.hart_frame.proofs.lemmas.heard.Hint.{is_told}
use Rattle.hart_frame.proofs.lemmas.heard.Place.{start_test, tested}
use Rattle.hart_frame.proofs.heard.miss.why_none.Goals as goal

-- Past the end of a list there is no miss.
none_past : (chars : List Character) (start : ℕ) → length chars < start → miss_of chars start ≡ None
none_past chars start past = grind (arith, common_steps, tested)

pub returns-in_err-heard-clause-found : goal.returns-in_err-heard-clause-found
returns-in_err-heard-clause-found c = grind (arith, none_past)

pub returns-then-is_start-clause-found : goal.returns-then-is_start-clause-found
returns-then-is_start-clause-found c = grind (arith, take_rest c.args.chars.now c.args.start, start_test c.args.chars.now c.args.start)

pub returns-then-is_none-clause-found : goal.returns-then-is_none-clause-found
returns-then-is_none-clause-found c = grind (arith, take_rest c.args.chars.now c.args.start, start_test c.args.chars.now c.args.start)

pub returns-clause-found : goal.returns-clause-found
returns-clause-found c = grind (arith, take_rest c.args.chars.now c.args.start, start_test c.args.chars.now c.args.start)

pub returns-then-is_start-clause-miss : goal.returns-then-is_start-clause-miss
returns-then-is_start-clause-miss c = grind (arith, take_rest, is_told, returns-then-is_start-clause-found c)

pub returns-then-is_none-clause-miss : goal.returns-then-is_none-clause-miss
returns-then-is_none-clause-miss c =
    is_told c.args.chars.now c.args.start _ (λ either. grind (arith, take_rest)) (returns-then-is_none-clause-found c)

pub returns-clause-miss : goal.returns-clause-miss
returns-clause-miss c = is_told c.args.chars.now c.args.start _ (λ either. absurd (grind arith)) (returns-clause-found c)
