-- The dates of the held characters.
use Rattle.std.proofs.Common.{◌≡◌, ◌≤◌, ◌<◌, ◌+◌, ◌∙◌, ◌⊎◌, ℕ, List, [], ◌∷◌, ◌++◌, length, get_or, sym, arith, inl, inr}
use Rattle.std.proofs.lemmas.List.{get_or_append_left, get_or_past, get_or_push}

-- a place lies before a number or not
pub before_or_not : (place n : ℕ) → (place < n) ⊎ (n ≤ place)
before_or_not place n = grind arith

-- after one more date is kept, the dates are right for one character more
pub date_pushed : (held old : List (List ℕ)) (last next : List ℕ) (used place : ℕ) → length held ≡ place
    → ((at : ℕ) → at < place → get_or held at last ≡ get_or old (used + at) last) → next ≡ get_or old (used + place) last
    → (at : ℕ) → at < place + 1 → get_or (held ++ next ∷ []) at last ≡ get_or old (used + at) last
date_pushed held old last next used place long same is at below = elim (before_or_not at place) [
  | inl before ↦ get_or_append_left held (next ∷ []) last at (omega (arith, before, long)) ∙ same at before
  | inr after ↦
      let end : at ≡ place = omega (arith, after, below) in
      rw end (get_or_push held next last place long ∙ is)
]

-- the dates that are kept are those of the characters that stay
pub dates_stay : (held old : List (List ℕ)) (last : List ℕ) (used count : ℕ) → length held ≡ count
    → ((at : ℕ) → at < count → get_or held at last ≡ get_or old (used + at) last) → length old ≤ used + count → (at : ℕ)
    → get_or held at last ≡ get_or old (used + at) last
dates_stay held old last used count long same few at = elim (before_or_not at count) [
  | inl before ↦ same at before
  | inr after ↦
      get_or_past held at last (omega (arith, after, long)) ∙ sym (get_or_past old (used + at) last (omega (arith, few, after)))
]
