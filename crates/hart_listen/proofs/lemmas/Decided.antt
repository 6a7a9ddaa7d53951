-- What was heard decides only one list of sightings, and decided sightings stay the first ones.
use Rattle.std.proofs.Common.{◌≡◌, ◌-◌, ◌⊎◌, ◌∙◌, ℕ, List, [], ◌∷◌, ◌++◌, map, ap, append_assoc, inl, inr, refl, sym, arith}
use Rattle.std.proofs.lemmas.Grind.{common_steps}
use Rattle.hart_frame.specs.declared.heard.miss.Miss.{Miss}
use Rattle.hart_frame.specs.declared.heard.miss.Miss.TheVariants.{BadCheck, Faulty}
use Rattle.hart_frame.specs.heard.Sighting.{Message, Missed, Seen, moved_seen}
use Rattle.hart_text.specs.Heard.{Heard, stretches}
use Rattle.hart_listen.specs.Dated.{Dated, dated_after}
use Rattle.hart_listen.specs.Preambles.{counted, preambles_of, told_of}
use Rattle.hart_listen.specs.Sightings.{AreDecided, AreSightingsOf, ComeFirst, date_of}
use Rattle.hart_listen.proofs.lemmas.Dated.{dated_then}
use Rattle.hart_listen.proofs.lemmas.InStretches.{some_seen}
use Rattle.hart_listen.proofs.lemmas.Preambles.{counted_then, counts_stay}
use Rattle.hart_listen.proofs.lemmas.Stands.{first_within}

-- misses and sightings, moved back: their places are counted from place `n` on
abbrev back_miss : ℕ → Miss → Miss
back_miss n (Faulty place faults) = Faulty (place - n) faults
back_miss n (BadCheck place byte fits) = BadCheck (place - n) byte fits
back_miss n miss = miss

abbrev pub back : ℕ → Seen → Seen
back n (Message found) = Message (record { start = found.start - n; stop = found.stop - n; frame = found.frame })
back n (Missed place miss header) = Missed (place - n) (back_miss n miss) header

moved_back : (n : ℕ) (s : Seen) → back n (moved_seen n s) ≡ s
moved_back n (Message found) = grind (arith, common_steps)
moved_back n (Missed place miss header) = grind (arith, common_steps)

-- if sightings that were moved begin with `s`, the sightings before the move begin with `s` moved back
pub first_moved : (n : ℕ) (all : List Seen) (s : Seen) (later : List Seen) → map (moved_seen n) all ≡ s ∷ later
    → (rest : List Seen) × (all ≡ back n s ∷ rest)
first_moved n [] s later is = absurd cc
first_moved n (x ∷ rest) s later is =
    let first : moved_seen n x ≡ s = cc in
    let same : x ≡ back n s = rw (← first, moved_back n x) refl in (rest, ap (λ y. y ∷ rest) same)

-- if two equal lists begin alike, their rests are equal
pub cancel : (xs ys zs : List Seen) → xs ++ ys ≡ xs ++ zs → ys ≡ zs
cancel [] ys zs is = is
cancel (x ∷ xs) ys zs is = let rest : xs ++ ys ≡ xs ++ zs = cc in cancel xs ys zs rest

-- of two beginnings of a list, one is a beginning of the other
compare : (xs ys more later : List Seen) → xs ++ more ≡ ys ++ later
    → (xs ≡ ys) ⊎ ((s : Seen) × (rest : List Seen) × (ys ≡ xs ++ s ∷ rest)) ⊎ ((s : Seen) × (rest : List Seen) × (xs ≡ ys ++ s ∷ rest))
compare [] [] more later is = inl refl
compare [] (s ∷ ys) more later is = inr (inl (s, ys, refl))
compare (s ∷ xs) [] more later is = inr (inr (s, xs, refl))
compare (x ∷ xs) (y ∷ ys) more later is =
    let first : x ≡ y = cc in
    let rest : xs ++ more ≡ ys ++ later = cc in
    elim (compare xs ys more later rest) [
      | inl same ↦ inl cc
      | inr (inl (s, other, longer)) ↦ inr (inl (s, other, cc))
      | inr (inr (s, other, longer)) ↦ inr (inr (s, other, cc))
    ]

-- SIGHTINGS OF WHAT WAS HEARD
-- if sightings come first, so does each beginning of them
part : (heard : List Heard) (xs ys rest : List Seen) (next : Seen) → ComeFirst heard ys → ys ≡ xs ++ next ∷ rest
    → ComeFirst heard (xs ++ next ∷ [])
part heard xs ys rest next first longer = λ more all are.
    let (later, is) = first more all are in
    let split : (xs ++ next ∷ rest) ++ later ≡ (xs ++ next ∷ []) ++ (rest ++ later) =
    append_assoc xs (next ∷ rest) later ∙ sym (append_assoc xs (next ∷ []) (rest ++ later)) in
    (rest ++ later, is ∙ (ap (λ zs. zs ++ later) longer ∙ split))

-- what was heard decides only one list of sightings
pub one_decided : (heard : List Heard) (xs ys : List Seen) → AreDecided heard xs → AreDecided heard ys → xs ≡ ys
one_decided heard xs ys a b =
    let (all, are) = some_seen 0 (stretches (heard ++ [])) in
    let (later, is) = a.first [] all are in
    let (after, also) = b.first [] all are in
    elim (compare xs ys later after (sym is ∙ also)) [
      | inl same ↦ same
      | inr (inl (next, rest, longer)) ↦ absurd (a.no_more next (part heard xs ys rest next b.first longer))
      | inr (inr (next, rest, longer)) ↦ absurd (b.no_more next (part heard ys xs rest next a.first longer))
    ]

-- whatever is heard next, the sightings decided so far are the first ones of all, and what is told of them stays
pub told_grows : (heard more : List Heard) (seen all : List Seen) → AreDecided heard seen → AreSightingsOf (heard ++ more) all
    → (rest : List Dated) × (told_of (heard ++ more) all ≡ told_of heard seen ++ rest)
told_grows heard more seen all decided are =
    let (later, same) = decided.first more all are in
    let date = date_of (heard ++ more) in
    let preambles = preambles_of (heard ++ more) in
    let next = dated_after date seen later in
    let rest = counted preambles seen next in
    let begun = counts_stay heard more seen (first_within heard seen decided.first) in (
      rest,
      ap (told_of (heard ++ more)) same
          ∙ (ap (counted preambles []) (dated_then date [] seen later)
          ∙ (counted_then preambles date [] seen next ∙ ap (λ xs. xs ++ rest) (sym begun))),
    )
