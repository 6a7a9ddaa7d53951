use Rattle.hart_text.specs.Lines.{words_of}
use Rattle.std.proofs.Common.{Bool, List, Some, [], ap, arith, drop, false, get_or, length, map, refl, suc, ℕ, ◌+◌, ◌<◌, ◌==◌, ◌∷◌, ◌≡◌}
use Rattle.std.proofs.lemmas.Bool.{false_from_ne_true}
use Rattle.std.proofs.lemmas.Grind.{common_steps}
use Rattle.std.proofs.lemmas.List.{take_rest}
use Rattle.std.specs.List.{onto_first, slice_split}
use Rattle.std.specs.Str.Lines.{strip_carriage_return}
use Rattle.hart_text.proofs.lemmas.Lines.{cut_at, found_is}
use Rattle.hart_text.proofs.lines.first_line.Goals as goal

-- if no place passes, there is one part
split_none : (p : ℕ → Bool) (xs : List ℕ) → ((k : ℕ) → k < length xs → p (get_or xs k 0) ≡ false) → slice_split p xs ≡ xs ∷ []
split_none p [] none = refl
split_none p (x ∷ xs) none =
    let first = none 0 (omega arith) in
    let rest = split_none p xs (λ k below. none (suc k) (omega arith)) in grind (arith, common_steps, onto_first)

pub returns-in-Some-memchr-clause-cut : goal.returns-in-Some-memchr-clause-cut
returns-in-Some-memchr-clause-cut c =
    let text = c.args.text.now in let found = c.in-Some-memchr.ensures in
    let place = found_is (λ (byte : ℕ). byte == 10) text (Some c.in-Some-memchr.len) found in
    rw (c.unmarked.ensures, c.without_return.ensures, take_rest) (ap (map words_of) (cut_at text c.in-Some-memchr.len (cc) found.0.high))

pub returns-in-Some-memchr-clause-rest : goal.returns-in-Some-memchr-clause-rest
returns-in-Some-memchr-clause-rest c =
    let text = c.args.text.now in let found = c.in-Some-memchr.ensures in
    let place = found_is (λ (byte : ℕ). byte == 10) text (Some c.in-Some-memchr.len) found in
    rw (take_rest) (ap (λ (n : ℕ). drop (n + 1) text) place)

pub returns-in-None-clause-cut : goal.returns-in-None-clause-cut
returns-in-None-clause-cut c =
    let text = c.args.text.now in
    let parts = split_none (λ (byte : ℕ). byte == 10) text (λ k below. false_from_ne_true _ (c.in-None.ensures k (omega arith) below)) in
    rw (c.unmarked-in-None.ensures, c.without_return-in-None.ensures)
    (ap (λ (all : List (List ℕ)). map words_of (map strip_carriage_return all)) parts)
