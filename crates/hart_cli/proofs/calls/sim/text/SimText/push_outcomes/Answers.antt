use Rattle.std.proofs.Common.{◌≡◌, ℕ, ◌+◌, ◌<◌, List, [], ◌∷◌, ◌++◌, length, take, get_or, arith, length-take, append_assoc}
use Rattle.std.proofs.lemmas.Grind.{common_steps}
use Rattle.std.proofs.lemmas.List.{get_or_default, take_more}
use Rattle.std.proofs.lemmas.Result.{err_from_is_err_and}
use Rattle.std.proofs.lemmas.List.FromFn.{get_or-enumerate_from, length-enumerate_from}
use Rattle.std.specs.List.{enumerate_from, flat_map}
use Rattle.hart_line.specs.declared.line.report.Outcome.{Outcome}
use Rattle.hart_cli.specs.sim.Text.{IsNeededByOutcomes, outcome_line}
use Rattle.hart_cli.proofs.calls.sim.text.SimText.push_outcomes.Goals as goal

-- if a list is numbered, the items after its first part go on with the next numbers
numbered_on : {X : Type 0} (n : ℕ) (xs more : List X)
    → enumerate_from n (xs ++ more) ≡ enumerate_from n xs ++ enumerate_from (n + length xs) more
numbered_on n [] more = grind arith
numbered_on n (x ∷ xs) more = grind (arith, numbered_on (n + 1) xs more)

-- the text of submissions up to index `i + 1` ends with the line of submission `i`
outcomes_more : (outcomes : List Outcome) (i : ℕ) (d : Outcome) → i < length outcomes
    → flat_map outcome_line (enumerate_from 1 (take (i + 1) outcomes))
    ≡ flat_map outcome_line (enumerate_from 1 (take i outcomes)) ++ outcome_line (i + 1, get_or outcomes i d)
outcomes_more outcomes i d below = grind (arith, common_steps, length-take, numbered_on, take_more)

-- if memory is needed for the line of a submission, the outcomes need this memory
outcome_needed : (outcomes : List Outcome) (i : ℕ) (d : Outcome) (items : ℕ) → i < length outcomes
    → items ≡ length (outcome_line (i + 1, get_or outcomes i d)) → IsNeededByOutcomes outcomes items
outcome_needed outcomes i d items below is =
    let within : i < length (enumerate_from 1 outcomes) = omega (arith, length-enumerate_from 1 outcomes) in
    let line : ℕ × Outcome = (i + 1, get_or outcomes i d) in
    (i, line, within, grind (arith, get_or-enumerate_from 1 outcomes i line below, get_or_default), is)

pub loop-index-preserved : goal.loop-index-preserved
loop-index-preserved c = grind (arith, common_steps, append_assoc, outcomes_more)

pub returns-in_err-push_bytes-clause-refused : goal.returns-in_err-push_bytes-clause-refused
returns-in_err-push_bytes-clause-refused c =
    let stop = err_from_is_err_and c.from_residual.result c.from_residual.ensures.1 in
    let refused = c.in_err-push_bytes.ensures.refused in
    let outcome = c.index-outcomes-index.result in
    rw (stop.1, stop.2)
    (refused.0, outcome_needed c.args.outcomes.now c.loop-index.index outcome _ (grind (arith, common_steps)) (grind (arith, common_steps)))
