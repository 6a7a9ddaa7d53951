-- The characters of texts that are given as words.
use Rattle.std.proofs.Common.{inl, inr, ◌∙◌, ap, subst, length-append, ◌≡◌, ◌<◌, ◌≤◌, ℕ, Bool, true, ◌++◌, ◌-◌, List, Ok, take, arith}
use Rattle.std.proofs.Common.{get_or, length, replicate}
use Rattle.std.proofs.Math.Seq.{get_or-append_right}
use Rattle.std.proofs.lemmas.Bool.{cases_lt}
use Rattle.std.proofs.lemmas.Bool.Decides.{nat_tests}
use Rattle.std.proofs.lemmas.Grind.{common_steps}
use Rattle.std.proofs.lemmas.List.{get_or-replicate, get_or_append_left, length-replicate}
use Rattle.std.proofs.lemmas.List.Sums.{prefix_len-le-length, prefix_len_passes}
use Rattle.std.specs.List.{prefix_len}
use Rattle.hart_request.specs.Values.{text_value}

-- each character of a padded text passes a test that the text and a space pass
padded_good : (passes : ℕ → Bool) → passes 32 ≡ true → (word : List ℕ) (count k d : ℕ)
    → prefix_len passes word ≡ length word
    → k < length (word ++ replicate count 32) → passes (get_or (word ++ replicate count 32) k d) ≡ true
padded_good passes space word count k d whole below =
    elim (cases_lt k (length word)) [
      | inl less ↦ ap passes (get_or_append_left word (replicate count 32) d k less)
          ∙ prefix_len_passes passes word k d (omega (arith, whole))
      | inr more ↦ ap passes (get_or-append_right word (replicate count 32) k d more
          ∙ get_or-replicate count (k - length word) 32 d
          (omega (arith, length-append word (replicate count 32), length-replicate {A = ℕ} count 32))) ∙ space
    ]

-- every character of a text that a word gives passes
pub given_good : (passes : ℕ → Bool) → passes 32 ≡ true → (most : ℕ) (word text : List ℕ) → Ok text ≡ text_value passes most word
    → (k d : ℕ) → k < length text → passes (get_or text k d) ≡ true
given_good passes space most word text is k d below =
    let full = prefix_len-le-length passes (take most word) in
    let short : length word ≤ most = grind (arith, common_steps, nat_tests) in
    let whole : prefix_len passes word ≡ length word = grind (arith, common_steps, nat_tests) in
    let form : text ≡ word ++ replicate (most - length word) 32 = grind (arith, common_steps, nat_tests) in
    rw form (padded_good passes space word (most - length word) k d whole (subst (λ (t : List ℕ). k < length t) form below))
