-- Lemmas about when two FF in a row begin in a whole body, and when they do not.
use Rattle.hart_frame.proofs.Common.{◌≡◌, true, false, List, ◌++◌, length, take, get_or, add-zero, arith, Option, take_all, After, Whatever}
use Rattle.hart_frame.proofs.Common.{◌≢◌, ◌+◌, ◌-◌, ◌<◌, ◌≤◌, ◌⊎◌, [], ◌∷◌, drop, ◌∙◌, sym, refl, None, ◌==◌, ◌&&◌, ◌||◌, More}
use Rattle.hart_frame.proofs.Common.{ℕ, length-append, length-drop, take-append-le, MayStandAlone, stands_alone, HasCheckByte, common_steps}
use Rattle.hart_frame.proofs.Common.{nat_tests, Character, faultless, check_miss, miss_in, MayFollow, body_length, IsTruncated, HasBodyMiss}
use Rattle.hart_frame.proofs.Common.{append-nil, drop_all, drop_more, get_or_append_left, take-append-add, faultless_bytes}
use Rattle.hart_frame.proofs.Common.{has_two_preambles, two_begin_in_body}
use Rattle.std.proofs.Common.{min}
use Rattle.hart_frame.proofs.lemmas.heard.Place.{preamble}
use Rattle.hart_frame.proofs.lemmas.heard.Front.{faultless_bytes-end}
use Rattle.hart_frame.proofs.lemmas.heard.Sighting.{is_none-map}
use Rattle.hart_frame.proofs.lemmas.scan.BodyAt.{bytes_from-heard, drop-heard}
use Rattle.hart_frame.proofs.lemmas.wire.Refusal.{length_more}

-- An empty list has no two FF in a row, and any other list has them at its front or in its rest.
pub two_none : has_two_preambles [] ≡ false
unfolding has_two_preambles
two_none = refl

pub two_step : (x : ℕ) (xs : List ℕ) → has_two_preambles (x ∷ xs) ≡ (((x == 255) && (get_or xs 0 0 == 255)) || has_two_preambles xs)
unfolding has_two_preambles
two_step x xs = grind (arith, common_steps, nat_tests)

-- If bytes have two FF in a row, they still have them when more bytes follow.
pub two_more : (xs ys : List ℕ) → has_two_preambles xs ≡ true → has_two_preambles (xs ++ ys) ≡ true
two_more [] ys two = absurd (grind (arith, two_none))
two_more (x ∷ []) ys two = absurd (grind (arith, nat_tests, two_step, two_none))
two_more (x ∷ y ∷ xs) ys two = grind (arith, nat_tests, two_step, two_more (y ∷ xs) ys)

-- If bytes end in FF and another FF follows, two FF stand in a row.
pub two_last : (xs ys : List ℕ) → get_or xs (length xs - 1) 0 ≡ 255 → has_two_preambles (xs ++ 255 ∷ ys) ≡ true
two_last [] ys last = absurd (grind arith)
two_last (x ∷ []) ys last = grind (arith, nat_tests, two_step)
two_last (x ∷ y ∷ xs) ys last = grind (arith, nat_tests, two_step, two_last (y ∷ xs) ys)

-- If the last byte is no FF, one more byte never makes two FF in a row.
pub two_end : (xs ys : List ℕ) → get_or xs (length xs - 1) 0 ≢ 255 → length ys ≤ 1 → has_two_preambles (xs ++ ys) ≡ has_two_preambles xs
two_end [] [] last few = refl
two_end [] (y ∷ []) last few = grind (arith, nat_tests, two_step, two_none)
two_end xs (y ∷ z ∷ ys) last few = absurd (omega (arith, few))
two_end (x ∷ []) [] last few = refl
two_end (x ∷ []) (y ∷ []) last few = grind (arith, nat_tests, two_step, two_none)
two_end (x ∷ z ∷ xs) ys last few = grind (arith, nat_tests, two_step, two_end (z ∷ xs) ys)

-- If neither of two parts has two FF in a row, and the second begins with a byte other than FF, the whole has none.
pub two_other : (xs ys : List ℕ) (y : ℕ) → y ≢ 255 → has_two_preambles xs ≡ false → has_two_preambles (y ∷ ys) ≡ false
    → has_two_preambles (xs ++ y ∷ ys) ≡ false
two_other [] ys y other none rest = rest
two_other (x ∷ []) ys y other none rest = grind (arith, nat_tests, two_step)
two_other (x ∷ z ∷ xs) ys y other none rest = grind (arith, nat_tests, two_step, two_other (z ∷ xs) ys y)

-- An appended byte makes two FF in a row only with the byte before it.
pub two_push : (xs : List ℕ) (y : ℕ) → has_two_preambles xs ≡ false → (get_or xs (length xs - 1) 0 ≡ 255 → y ≢ 255)
    → has_two_preambles (xs ++ y ∷ []) ≡ false
two_push [] y none other = grind (arith, nat_tests, two_step, two_none)
two_push (x ∷ []) y none other = grind (arith, nat_tests, two_step, two_none)
two_push (x ∷ z ∷ xs) y none other = grind (arith, nat_tests, two_step, two_push (z ∷ xs) y)

-- Whether two FF in a row begin in a body depends on the bytes of the body and one byte more.
pub two_in : (bytes : List ℕ) (next : List Character) (start n : ℕ) → start ≤ length bytes → body_length (drop start bytes) ≡ n
    → n ≤ length (drop start bytes)
    → two_begin_in_body (faultless bytes ++ next) start ≡ has_two_preambles (take (n + 1) (drop start bytes ++ faultless_bytes next))
two_in bytes next start n within long whole = grind (arith, nat_tests, bytes_from-heard, length_more)

-- A faultless byte follows only if more characters may come.
more_of : (after : After) (next : List Character) → MayFollow after next → 0 < length (faultless_bytes next) → after ≡ More
more_of after next follows some = grind (arith, common_steps, faultless_bytes-end)

-- A whole body of `n` bytes begins at `start`, and the lemmas say whether it stands alone.
module _ (bytes : List ℕ) (after : After) (start n : ℕ) (within : start ≤ length bytes) (long : body_length (drop start bytes) ≡ n)
    (enough : n ≤ length (drop start bytes)) (whole : Whatever bytes after (HasBodyMiss start None)) where
  part : (ys : List ℕ) → ((n + 1 ≤ length (drop start bytes)) × (take (n + 1) (drop start bytes ++ ys) ≡ take (n + 1) (drop start bytes)))
      ⊎ ((n ≡ length (drop start bytes)) × (take (n + 1) (drop start bytes ++ ys) ≡ drop start bytes ++ take 1 ys)
      × (take (n + 1) (drop start bytes) ≡ drop start bytes))
  part ys = grind (arith, nat_tests, take-append-le, take-append-add (drop start bytes) ys 1, take_all)

  pub crossed : has_two_preambles (take (n + 1) (drop start bytes)) ≡ true
      → Whatever bytes after (λ chars. stands_alone chars start ≡ false)
  crossed two next follows = grind (arith, nat_tests, two_in bytes next start n within long enough, part, two_more)

  pub alone : has_two_preambles (take (n + 1) (drop start bytes)) ≡ false
      → (after ≡ More → n ≡ length (drop start bytes) → get_or (drop start bytes) (n - 1) 0 ≢ 255)
      → Whatever bytes after (λ chars. stands_alone chars start ≡ true)
  alone none last next follows = grind (arith, nat_tests, two_in bytes next start n within long enough, part, append-nil, two_end, more_of)

-- The bytes that are looked at are those of the body and the byte after it, if there is one.
pub looked_at : (bytes : List ℕ) (start stop : ℕ) → start < stop → stop ≤ length bytes
    → take (min (length bytes) (stop + 1) - start) (drop start bytes) ≡ take (stop - start + 1) (drop start bytes)
looked_at bytes start stop order within = grind (arith, nat_tests, length-drop, take_all)

-- A whole body at the end of the bytes, with FF as its last byte and no two FF in a row, may or may not stand alone.
pub lone_open : (bytes : List ℕ) (start n : ℕ) → start ≤ length bytes → body_length (drop start bytes) ≡ n → n ≡ length (drop start bytes)
    → Whatever bytes More (HasBodyMiss start None) → has_two_preambles (take (n + 1) (drop start bytes)) ≡ false
    → get_or (drop start bytes) (n - 1) 0 ≡ 255 → MayStandAlone bytes start
lone_open bytes start n within long all whole none last =
    let xs = drop start bytes in
    let one = two_in bytes [] start n within long (omega (arith, all)) in
    let two = two_in bytes (preamble ∷ []) start n within long (omega (arith, all)) in
    record {
      one = [];
      alone = grind (arith, nat_tests, append-nil, take_all);
      other = preamble ∷ [];
      not_alone = grind (arith, nat_tests, take_all, two_last xs [], length-append);
    }

-- Bytes without a miss reach their check byte, and it fits.
pub whole_has : (xs : List ℕ) (f : Option Character) (fp start : ℕ) → miss_in xs f fp start ≡ None
    → HasCheckByte xs × (check_miss xs start ≡ None)
whole_has xs f fp start is = grind (arith, nat_tests)

-- If bytes end too early, and more bytes make them a whole body, this body ends among the added bytes.
pub whole_past : (xs ys : List ℕ) → IsTruncated xs → HasCheckByte (xs ++ ys) → length xs < body_length (xs ++ ys)
whole_past xs ys truncated has = grind (arith, length-append, get_or_append_left)

-- Whether a body stands alone does not depend on its place.
pub alone_moved : (bytes : List ℕ) (more : List Character) (start : ℕ) → start ≤ length bytes
    → stands_alone (faultless bytes ++ more) start ≡ stands_alone (faultless (drop start bytes) ++ more) 0
alone_moved bytes more start within =
    grind (arith, nat_tests, drop-heard, is_none-map, add-zero)

-- Whether more characters let a body stand alone depends only on the bytes from its place on.
pub may_moved : (bytes others : List ℕ) (start other : ℕ) → start ≤ length bytes → other ≤ length others
    → drop start bytes ≡ drop other others → MayStandAlone bytes start → MayStandAlone others other
may_moved bytes others start other within inside same may =
    let moved = λ (more : List Character). alone_moved others more other inside
    ∙ rw same at (sym (alone_moved bytes more start within)) in
    grind (arith, moved)

pub ruleset two_preambles = (two_none, two_step, drop_all, drop_more)
