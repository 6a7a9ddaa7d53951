-- What stands at a place of bytes, whatever comes after them.
use Rattle.hart_frame.proofs.Common.{◌≡◌, ◌≢◌, ℕ, ◌+◌, ◌≤◌, false, List, [], ◌∷◌, ◌++◌, length, drop, None, Some, Option, ◌∙◌, arith, refl}
use Rattle.hart_frame.proofs.Common.{length-append, length-drop, nat_tests, append-nil, drop-append-le, drop-map, get_or_at, Miss}
use Rattle.hart_frame.proofs.Common.{length-map, slice_get-get_or, slice_get_cases, slice_get, Faulty, After, Damaged, End, More, Layout}
use Rattle.hart_frame.proofs.Common.{Cut, Wrong, Character, faultless, faultless_bytes, body_miss, miss_in, IsPrefix, IsWrong, Whatever}
use Rattle.hart_frame.proofs.Common.{stands_alone, heard_with, header_in, body_length, cut_miss, wrong_miss, HasBodyMiss, common_steps}
use Rattle.hart_frame.proofs.lemmas.heard.Front.{faultless_bytes-end, faultless_bytes-append}
use Rattle.hart_frame.specs.declared.wire.prefix.Prefix.TheVariants.{Whole}
use Rattle.hart_frame.specs.private.Sighting.{KeepsHeader}
use Rattle.hart_frame.specs.scan.Sighting.{NamesPlacesBelow}
use Rattle.hart_frame.proofs.lemmas.wire.Header.{header_sure}
use Rattle.hart_frame.proofs.lemmas.heard.Missed.{cut_told, whole_told, wrong_told}
use Rattle.hart_frame.proofs.lemmas.scan.Sighted.{heard_few}
use Rattle.hart_frame.proofs.lemmas.wire.Reading.{wrong_within}

-- What is heard from a place on is the bytes from there on, and then what follows.
pub drop-heard : (bytes : List ℕ) (rest : List Character) (start : ℕ) → start ≤ length bytes
    → drop start (faultless bytes ++ rest) ≡ faultless (drop start bytes) ++ rest
drop-heard bytes rest start within = grind (arith, drop-append-le, drop-map, length-map)

-- The faultless bytes heard from a place on are the bytes from there on, and then the faultless bytes that follow.
pub bytes_from-heard : (bytes : List ℕ) (next : List Character) (start : ℕ) → start ≤ length bytes
    → faultless_bytes (drop start (faultless bytes ++ next)) ≡ drop start bytes ++ faultless_bytes next
bytes_from-heard bytes next start within = rw (drop-heard bytes next start within) (faultless_bytes-append (drop start bytes) next)

-- The miss of what is heard is found from its faultless bytes and the character after these bytes.
pub miss_more : (xs : List ℕ) (rest : List Character) (start : ℕ) → body_miss start (faultless xs ++ rest)
    ≡ miss_in (xs ++ faultless_bytes rest) (slice_get (faultless xs ++ rest) (length (xs ++ faultless_bytes rest)))
    (start + length (xs ++ faultless_bytes rest)) start
miss_more xs rest start = rw (faultless_bytes-append xs rest) refl

pub miss_end : (xs : List ℕ) (start : ℕ) → body_miss start (faultless xs) ≡ miss_in xs None (start + length xs) start
miss_end xs start =
    grind (arith, nat_tests, append-nil, faultless_bytes-append xs [], length-map, slice_get_cases (faultless xs) (length xs))

pub miss_faulty : (xs : List ℕ) (c : Character) (more : List Character) (start : ℕ) → c.faults ≢ 0
    → body_miss start (faultless xs ++ c ∷ more) ≡ miss_in xs (Some c) (start + length xs) start
miss_faulty xs c more start bad =
    let there = slice_get-get_or (faultless xs ++ c ∷ more) (length xs) c in
    let bytes = faultless_bytes-append xs (c ∷ more) in
    grind (arith, nat_tests, append-nil, faultless_bytes-end c more, length-map, length-append, get_or_at)

-- A body with a miss does not stand alone.
pub not_alone : (bytes : List ℕ) (after : After) (start : ℕ) (miss : Miss) → Whatever bytes after (HasBodyMiss start (Some miss))
    → Whatever bytes after (λ chars. stands_alone chars start ≡ false)
not_alone bytes after start miss is next follows = let same = is next follows in grind arith

module _ (bytes : List ℕ) (start : ℕ) (within : start ≤ length bytes) where
  -- The bytes from the place on.
  abbrev xs : List ℕ
  xs = drop start bytes

  -- If these bytes decide the miss there, the miss stays the same whatever follows.
  whatever : (after : After) (miss : Option Miss) → ((ys : List ℕ) (f : Option Character) (fp : ℕ) → miss_in (xs ++ ys) f fp start ≡ miss)
      → Whatever bytes after (HasBodyMiss start miss)
  whatever after miss is next follows = grind (arith, common_steps, drop-heard, within, miss_more)

  pub whole_seen : (after : After) (layout : Layout) → IsPrefix xs (Whole layout) → Whatever bytes after (HasBodyMiss start None)
  whole_seen after layout is = whatever after None (λ ys f fp. whole_told xs ys layout f fp start is)

  pub wrong_seen : (after : After) (w : Wrong) → IsWrong xs w → Whatever bytes after (HasBodyMiss start (Some (wrong_miss w start)))
  wrong_seen after w is = whatever after _ (λ ys f fp. wrong_told xs ys w f fp start is)

  -- A place that the miss names lies within what is heard.
  pub wrong_below : (after : After) (w : Wrong) → IsWrong xs w → NamesPlacesBelow (length (heard_with bytes after)) (wrong_miss w start)
  wrong_below after w is = grind (arith, nat_tests, wrong_within xs w is, length-drop, heard_few)

  -- Where bytes end too early, the miss says what is missing at the end, or names the character with fault bits that follows.
  pub cut_ended : (missing : Option ℕ) → IsPrefix xs (Cut missing) → Whatever bytes End (HasBodyMiss start (Some (cut_miss missing)))
  cut_ended missing is next ends =
      let heard : drop start (faultless bytes ++ next) ≡ faultless xs = grind (arith, append-nil, drop-heard) in
      rw heard (miss_end xs start ∙ cut_told xs missing None (start + length xs) start is)

  pub cut_damaged : (c : Character) (missing : Option ℕ) → IsPrefix xs (Cut missing)
      → Whatever bytes (Damaged c) (HasBodyMiss start (Some (Faulty (length bytes) c.faults)))
  cut_damaged c missing is next (valid, more, same) =
      let place : start + length xs ≡ length bytes = omega (arith, length-drop start bytes, within) in
      let faulty = miss_faulty xs c more start valid ∙ cut_told xs missing (Some c) (start + length xs) start is in
      rw (same, drop-heard bytes (c ∷ more) start within) (rw place at faulty)

  pub cut_not_alone : (after : After) (missing : Option ℕ) → (after ≡ More → ⊥) → IsPrefix xs (Cut missing)
      → Whatever bytes after (λ chars. stands_alone chars start ≡ false)
  cut_not_alone More missing over is = absurd (over refl)
  cut_not_alone End missing over is = not_alone bytes End start _ (cut_ended missing is)
  cut_not_alone (Damaged c) missing over is = not_alone bytes (Damaged c) start _ (cut_damaged c missing is)

  -- If the bytes from the place on decide the header there, it is their header whatever follows.
  header_whatever : (after : After) → ((ys : List ℕ) → header_in (xs ++ ys) ≡ header_in xs) → Whatever bytes after (KeepsHeader bytes start)
  header_whatever after sure next follows = rw (bytes_from-heard bytes next start within) (sure (faultless_bytes next))

  pub wrong_header : (after : After) (w : Wrong) → IsWrong xs w → Whatever bytes after (KeepsHeader bytes start)
  wrong_header after w is = grind (arith, common_steps, header_whatever, header_sure, wrong_within)

  pub body_header : (after : After) → body_length xs ≤ length xs → Whatever bytes after (KeepsHeader bytes start)
  body_header after whole = header_whatever after (λ ys. header_sure xs ys (omega (arith, whole)) (λ _. omega (arith, whole)))

  -- If nothing or a character with fault bits follows the bytes, the header that is heard is that of the bytes.
  pub ended_header : Whatever bytes End (KeepsHeader bytes start)
  ended_header next ends = rw (bytes_from-heard bytes next start within, ends, append-nil xs) refl

  pub damaged_header : (c : Character) → Whatever bytes (Damaged c) (KeepsHeader bytes start)
  damaged_header c next (valid, more, same) = grind (arith, common_steps, bytes_from-heard, within, faultless_bytes-end, append-nil)
