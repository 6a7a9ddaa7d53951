-- What is known about bytes from how they begin.
use Rattle.hart_frame.proofs.Common.{◌≡◌, ◌≢◌, ℕ, zero, suc, ◌+◌, ◌<◌, ◌≤◌, inl, inr, List, [], ◌∷◌, ◌++◌, length, take, drop, get_or, refl}
use Rattle.hart_frame.proofs.Common.{sym, ap, ◌∙◌, arith, append_assoc, take-append-add, append-nil, length-drop, map-append, take_rest}
use Rattle.hart_frame.proofs.Common.{take-append-drop, slice_range, Truncated, Layout, Wrong, Character, faultless, faultless_bytes}
use Rattle.hart_frame.proofs.Common.{IsUndecided, BeginWithNone, IsWhole, MayBegin, layout_length, IsPrefix, IsWrong, IsTruncated, bytes_of}
use Rattle.hart_frame.specs.declared.scan.candidate.Candidate.TheVariants.{Never, Whole}
use Rattle.hart_frame.specs.declared.wire.prefix.Prefix.{Prefix}
use Rattle.hart_frame.specs.declared.wire.prefix.Prefix.TheVariants as prefix
use Rattle.hart_frame.specs.private.Candidate.{IsCandidate, IsShort, IsShortPrefix, MayBeginBefore, NothingFollows, NeverBegin}
use Rattle.hart_frame.specs.private.Candidate.{candidate_of}
use Rattle.hart_frame.specs.private.Prefix.{fault_in, shown_by}
use Rattle.hart_frame.proofs.lemmas.heard.Front.{bytes_of-faultless, faultless_bytes-append, faultless_bytes-end}
use Rattle.hart_frame.proofs.lemmas.heard.Place.{StandsIn-at, StandsIn-within, preamble}
use Rattle.hart_frame.proofs.lemmas.wire.Parity.{fits_drop}
use Rattle.hart_frame.proofs.lemmas.wire.Refusal.{refused_more}
use Rattle.hart_frame.proofs.lemmas.wire.Reading.{cut_truncated, whole_has, wrong_few, wrong_fewer, wrong_refused, wrong_shown}
use Rattle.hart_frame.proofs.lemmas.wire.Reading.{wrong_within}
use Rattle.hart_frame.proofs.lemmas.wire.Refusal.{not_refused}
use Rattle.hart_frame.proofs.lemmas.wire.Truncated.{truncated_check, truncated_few}
use Rattle.hart_frame.proofs.lemmas.wire.UnambiguousBodies.{BeginsWithBody-append}

bytes_of_append : (xs : List ℕ) (tail : List Character) → bytes_of (faultless xs ++ tail) ≡ xs ++ bytes_of tail
bytes_of_append xs tail = grind (arith, map-append, bytes_of-faultless)

-- Bytes that begin with a byte other than FF never begin a frame.
pub never_first : (x : ℕ) (xs : List ℕ) → x ≢ 255 → NeverBegin (x ∷ xs)
never_first x xs other more f body rest is same = grind arith

-- Bytes with something wrong after the first two never begin a frame.
pub never_after : (x y : ℕ) (xs : List ℕ) (w : Wrong) → IsWrong xs w → NeverBegin (x ∷ y ∷ xs)
never_after x y xs w wrong more f body rest is same =
    let after : faultless xs ++ more ≡ faultless body ++ rest = grind arith in
    let bytes = sym (bytes_of_append xs more) ∙ ap bytes_of after ∙ bytes_of_append body rest in
    not_refused (xs ++ bytes_of more) f (length body) (fault_in w) (rw bytes (BeginsWithBody-append f body (bytes_of rest) is))
    (refused_more xs (bytes_of more) (fault_in w) (λ same. grind arith) (wrong_refused xs w wrong))

-- Bytes that never begin a frame still never begin one when more bytes follow.
pub never_more : (xs ys : List ℕ) → NeverBegin xs → NeverBegin (xs ++ ys)
never_more xs ys never more f body rest is same =
    never (faultless ys ++ more) f body rest is (grind (arith, append_assoc, map-append))

-- Bytes that may begin a frame do not begin a frame if what follows cannot belong to a frame.
pub nothing_open : (xs : List ℕ) (tail : List Character) → MayBegin xs → NothingFollows tail → BeginWithNone (faultless xs ++ tail)
nothing_open xs tail (inl none) ends f body rest is same = grind (arith, preamble)
nothing_open xs tail (inr (inl one)) ends f body rest is same = grind (arith, preamble)
nothing_open xs tail (inr (inr (after, two, truncated))) ends f body rest is same =
    let bytes : after ≡ body ++ faultless_bytes rest =
    grind (arith, append-nil, faultless_bytes-append after tail, faultless_bytes-append body rest, faultless_bytes-end) in
    grind (arith, not_refused after f (length body) Truncated, BeginsWithBody-append f body (faultless_bytes rest) is)

-- Bytes that may begin a frame decide no frame.
pub undecided_open : (xs : List ℕ) → MayBegin xs → IsUndecided (faultless xs)
undecided_open (x ∷ y ∷ after) may =
    let xs = x ∷ y ∷ after in
    let truncated : IsTruncated after = grind arith in
    inr (
      2,
      record { prefix = []; bytes = after; split = grind arith; start = refl; truncated = truncated },
      λ found stands.
          let none = nothing_open xs [] may (inl refl) found.frame stands.body stands.rest stands.is_body in
          grind (arith, StandsIn-within, append-nil, StandsIn-at (faultless xs) 0 0 found stands, none),
    )
undecided_open xs may = inl (λ found stands. grind (arith, StandsIn-within found (faultless xs) 0 stands))

-- After two FF, a prefix may begin a frame if the bytes after the two FF end too early.
pub may_begin_before : (count : ℕ) (xs : List ℕ) → ((fewer : ℕ) → fewer < count → IsTruncated (take fewer xs))
    → MayBeginBefore (2 + count) (255 ∷ 255 ∷ xs)
may_begin_before count xs truncated zero below = inl refl
may_begin_before count xs truncated (suc zero) below = inr (inl refl)
may_begin_before count xs truncated (suc (suc fewer)) below = inr (inr (take fewer xs, refl, truncated fewer (omega (arith, below))))

-- A prefix of bytes is short.
pub prefix_short : (xs : List ℕ) (p : Prefix) → ((i : ℕ) → get_or xs i 0 < 256) → IsPrefix xs p → IsShortPrefix p
prefix_short xs (prefix.Whole layout) fits is = grind arith
prefix_short xs (prefix.Cut missing) fits is = grind arith
prefix_short xs (prefix.Wrong wrong) fits is = wrong_few xs wrong fits is

-- The first two bytes of a list are FF.
module _ (xs : List ℕ) (long : 2 ≤ length xs) (first : get_or xs 0 0 ≡ 255) (second : get_or xs 1 0 ≡ 255) where
  two : xs ≡ 255 ∷ 255 ∷ drop 2 xs
  two = grind arith

  pub after_wrong : (w : Wrong) → IsWrong (slice_range xs 2 (length xs)) w → IsCandidate xs (Never (2 + shown_by w))
  after_wrong w wrong =
      let ys = drop 2 xs in
      let is : IsWrong ys w = rw (take_rest xs 2) at wrong in
      let n = shown_by w in
      let parts : take (2 + n) (255 ∷ 255 ∷ ys) ≡ 255 ∷ 255 ∷ take n ys = take-append-add (255 ∷ 255 ∷ []) ys n in (
        omega (arith, wrong_within ys w is, long, length-drop 2 xs),
        rw (two, parts) (never_after 255 255 (take n ys) w (wrong_shown ys w is)),
        rw two (may_begin_before n ys (wrong_fewer ys w is)),
      )

  pub after_whole : (layout : Layout) → IsPrefix (slice_range xs 2 (length xs)) (prefix.Whole layout) → IsCandidate xs (Whole layout)
  after_whole layout whole =
      let n = layout_length layout in
      let ys = drop 2 xs in
      let is : IsPrefix ys (prefix.Whole layout) = rw (take_rest xs 2) at whole in
      let (has, same, few) = whole_has ys layout is in
      let body : IsWhole layout xs =
      record { body = take n ys; rest = drop n ys; parts = grind (arith, two, take-append-drop); whole = is.1 } in (
        body,
        rw two (may_begin_before n ys (λ fewer below.
            truncated_check ys fewer has.0 (omega (arith, below, same)) (omega (arith, below, is.0)))),
      )

  -- If the bytes after these two begin as a prefix says, the list begins as the candidate of that prefix says.
  pub candidate_is : (p : Prefix) → IsPrefix (drop 2 xs) p → IsCandidate xs (candidate_of p)
  candidate_is (prefix.Whole layout) is = after_whole layout (rw (← take_rest xs 2) at is)
  candidate_is (prefix.Cut missing) is = inr (inr (drop 2 xs, two, cut_truncated (drop 2 xs) missing is))
  candidate_is (prefix.Wrong wrong) is = after_wrong wrong (rw (← take_rest xs 2) at is)

  -- The list then keeps the limits of a candidate.
  pub candidate_short : (p : Prefix) → ((i : ℕ) → get_or xs i 0 < 256) → IsPrefix (drop 2 xs) p → IsShort xs (candidate_of p)
  candidate_short (prefix.Whole layout) fits is = (whole_has (drop 2 xs) layout is).2
  candidate_short (prefix.Cut missing) fits is =
      omega (arith, truncated_few (drop 2 xs) (fits_drop xs 2 fits) (cut_truncated (drop 2 xs) missing is), length-drop 2 xs)
  candidate_short (prefix.Wrong wrong) fits is =
      (omega arith, omega (arith, wrong_few (drop 2 xs) wrong (fits_drop xs 2 fits) is))

-- An FF and then a byte other than FF prove that no frame begins.
pub second_never : (xs : List ℕ) → 2 ≤ length xs → get_or xs 0 0 ≡ 255 → get_or xs 1 0 ≢ 255 → IsCandidate xs (Never 2)
second_never xs long first other = (long, grind arith, grind arith)
