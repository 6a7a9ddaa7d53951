use Rattle.std.proofs.Common.{◌≡◌, ◌<◌, ℕ, Bor, List, sym, arith, below_more, get_or, map, length, []}
use Rattle.std.proofs.lemmas.Grind.{common_steps}
use Rattle.std.proofs.lemmas.List.{get_or-map, length-map}
use Rattle.std.proofs.lemmas.List.Sums.{position_or_len_is}
use Rattle.hart_commands.specs.Fields.{seen}
use Rattle.hart_request.specs.Fields.{is_for}
use Rattle.hart_request.proofs.fields.place_for.Goals as goal

-- the text of the word at a place
text_at : (words : List (Bor (List ℕ))) (place : ℕ) (d : Bor (List ℕ)) → place < length words
    → (get_or words place d).now ≡ get_or (map (λ word. word.now) words) place []
text_at words place d below = sym (get_or-map (λ word. word.now) words place d [] below)

pub returns-then-is_for-clause-place : goal.returns-then-is_for-clause-place
returns-then-is_for-clause-place c =
    sym (position_or_len_is (is_for (seen c.args.row.now)) (map (λ (word : Bor (List ℕ)). word.now) c.args.words.now) c.loop-place.place []
    (omega (arith, length-map c.args.words.now (λ (word : Bor (List ℕ)). word.now))) c.loop-place.invariant
    (λ _. grind (arith, common_steps, text_at)))

pub returns-clause-place : goal.returns-clause-place
returns-clause-place c =
    let size = length-map c.args.words.now (λ (word : Bor (List ℕ)). word.now) in
    sym (position_or_len_is (is_for (seen c.args.row.now)) (map (λ (word : Bor (List ℕ)). word.now) c.args.words.now)
    (length c.args.words.now) [] (omega arith) (λ place below. c.loop-place.invariant place (omega arith)) (λ below. absurd (omega arith)))

pub loop-place-preserved : goal.loop-place-preserved
loop-place-preserved c = below_more _ _ c.loop-place.invariant (grind (arith, common_steps, text_at))
