-- The held bytes, and the character that may come after them.
use Rattle.std.proofs.Common.{◌≡◌, ◌≢◌, ◌≤◌, ◌<◌, ◌+◌, ◌-◌, ◌∙◌, ℕ, All, true, false, List, [], ◌∷◌, ◌++◌, length, map, take}
use Rattle.std.proofs.Common.{ap, append-nil, append_assoc, arith, inl, inr, length-append, length-take, nat_le, refl, replicate, sym}
use Rattle.std.proofs.lemmas.Bool.Decides.{nat_tests}
use Rattle.std.proofs.lemmas.Grind.{common_steps}
use Rattle.std.proofs.lemmas.List.{length-map, length-replicate, take-append-le, take_all}
use Rattle.std.proofs.lemmas.List.Elements.{All-map, All-weaker}
use Rattle.hart_frame.specs.declared.scan.sighting.After.{After}
use Rattle.hart_frame.specs.declared.scan.sighting.After.TheVariants.{Damaged, End, More}
use Rattle.hart_frame.specs.heard.Character.{Character, faultless}
use Rattle.hart_frame.specs.heard.Miss.{is_preamble}
use Rattle.hart_frame.specs.heard.Sighting.{Seen, moved_seen}
use Rattle.hart_frame.specs.scan.Sighting.{AfterIsValid, heard_with}
use Rattle.hart_listen.specs.Dated.{dated_after}
use Rattle.hart_listen.specs.Gaps.{seen_place}
use Rattle.hart_listen.specs.Listener.{chars_after}
use Rattle.hart_listen.specs.Preambles.{after_preambles, counted, last_preambles, preambles_at, preambles_dropped}
use Rattle.hart_listen.proofs.lemmas.Dates.{moved_place}
use Rattle.hart_listen.proofs.lemmas.HeldDates.{before_or_not}
use Rattle.hart_listen.proofs.lemmas.Preambles.{CountAlike, counted_same, first_bytes, last_few, last_pushed}

-- a list of faultless characters is as long as the list of their bytes
pub long_is : (bytes : List ℕ) → length (faultless bytes) ≡ length bytes
long_is bytes = length-map bytes _

-- what is heard is the characters of the held bytes, and what comes after them
pub heard_is : (held : List ℕ) (after : After) → heard_with held after ≡ faultless held ++ chars_after after
heard_is held More = sym (append-nil (faultless held))
heard_is held (Damaged character) = refl
heard_is held End = sym (append-nil (faultless held))

-- at most one character comes after the held bytes
pub heard_few : (held : List ℕ) (after : After) → length (heard_with held after) ≤ length held + 1
heard_few held More = omega (arith, long_is held)
heard_few held (Damaged character) = omega (arith, long_is held, length-append (faultless held) (character ∷ []))
heard_few held End = omega (arith, long_is held)

-- the preamble bytes right before held bytes do not depend on what comes after these bytes
pub counted_held : (preambles first : ℕ) (before : List Seen) (held : List ℕ) (after : After) (date : ℕ → List ℕ)
    (earlier given : List Seen)
    → All (λ s. seen_place s ≤ length held) given
    → counted (preambles_at preambles first (faultless held)) before (dated_after date earlier (map (moved_seen first) given))
    ≡ counted (preambles_at preambles first (heard_with held after)) before (dated_after date earlier (map (moved_seen first) given))
counted_held preambles first before held after date earlier given within =
    let old = preambles_at preambles first (faultless held) in
    let new = preambles_at preambles first (heard_with held after) in
    counted_same old new before date earlier (map (moved_seen first) given)
    (All-map (CountAlike old new) (moved_seen first) given
    (All-weaker (λ (s : Seen). seen_place s ≤ length held) (λ one. CountAlike old new (moved_seen first one))
    (λ one here.
    let few : seen_place (moved_seen first one) - first ≤ length (faultless held) =
    omega (arith, moved_place first one, here, long_is held) in
    ap (λ xs. last_preambles (after_preambles preambles xs))
    (sym (take-append-le (seen_place (moved_seen first one) - first) (faultless held) (chars_after after) few)
    ∙ ap (take (seen_place (moved_seen first one) - first)) (sym (heard_is held after))))
    given within))

-- after a damaged character, no preamble byte stands right before what stays
no_preamble : (preambles : ℕ) (xs : List Character) (c : Character) → c.faults ≢ 0
    → last_preambles (after_preambles preambles (xs ++ c ∷ [])) ≡ 0
no_preamble preambles xs c damaged =
    let intact : Character = record { byte = 255; faults = 0 } in
    let test : is_preamble c ≡ false = grind (arith, common_steps, nat_tests, damaged) in
    ap last_preambles (sym (append_assoc (replicate preambles intact) xs (c ∷ [])))
    ∙ rw test at (last_pushed (replicate preambles intact ++ xs) c)

dropped_damaged : (preambles : ℕ) (held : List ℕ) (after : After) (used : ℕ) → AfterIsValid after
    → used ≤ length (heard_with held after) → length held < used
    → preambles_dropped preambles held used ≡ last_preambles (after_preambles preambles (take used (heard_with held after)))
dropped_damaged preambles held More used valid within beyond = absurd (omega (arith, within, beyond, long_is held))
dropped_damaged preambles held End used valid within beyond = absurd (omega (arith, within, beyond, long_is held))
dropped_damaged preambles held (Damaged character) used valid within beyond =
    let long = length-append (faultless held) (character ∷ []) in
    let all : take used (faultless held ++ character ∷ []) ≡ faultless held ++ character ∷ [] =
    take_all used (faultless held ++ character ∷ []) (omega (arith, long, beyond, long_is held)) in
    let test : nat_le used (length held) ≡ false = grind (arith, nat_tests, beyond) in
    rw (test, all) (sym (no_preamble preambles (faultless held) character valid))

-- the preamble bytes right before the characters that stay are those at the end of the characters that are let go
pub dropped_is : (preambles : ℕ) (held : List ℕ) (after : After) (used : ℕ) → AfterIsValid after
    → used ≤ length (heard_with held after)
    → preambles_dropped preambles held used ≡ last_preambles (after_preambles preambles (take used (heard_with held after)))
dropped_is preambles held after used valid within = elim (before_or_not (length held) used) [
  | inl beyond ↦ dropped_damaged preambles held after used valid within beyond
  | inr short ↦
      let few : used ≤ length (faultless held) = omega (arith, short, long_is held) in
      let first : faultless (take used held) ≡ take used (faultless held) = first_bytes held used in
      let same : take used (faultless held) ≡ take used (heard_with held after) =
      sym (take-append-le used (faultless held) (chars_after after) few) ∙ ap (take used) (sym (heard_is held after)) in
      let test : nat_le used (length held) ≡ true = grind (arith, nat_tests, short) in
      rw test (ap (λ xs. last_preambles (after_preambles preambles xs)) (first ∙ same))
]

-- at most all bytes, and those before them, are preamble bytes right before their end
pub after_few : (preambles : ℕ) (bytes : List ℕ) → last_preambles (after_preambles preambles (faultless bytes)) ≤ preambles + length bytes
after_few preambles bytes =
    let intact : Character = record { byte = 255; faults = 0 } in
    omega (
      arith,
      last_few (after_preambles preambles (faultless bytes)),
      length-append (replicate preambles intact) (faultless bytes),
      length-replicate preambles intact,
      long_is bytes,
    )

-- at most all characters that were let go are preamble bytes right before those that stay
pub dropped_few : (preambles : ℕ) (held : List ℕ) (used : ℕ) → preambles_dropped preambles held used ≤ preambles + used
dropped_few preambles held used = elim (before_or_not (length held) used) [
  | inl beyond ↦
      let test : nat_le used (length held) ≡ false = grind (arith, nat_tests, beyond) in rw test (omega arith)
  | inr short ↦
      let test : nat_le used (length held) ≡ true = grind (arith, nat_tests, short) in
      rw test (omega (arith, after_few preambles (take used held), length-take used held))
]
