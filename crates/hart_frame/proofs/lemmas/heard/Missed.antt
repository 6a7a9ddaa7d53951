-- The miss of a place follows from how the bytes there begin, and depends on what stands right before the place. Where a frame stands,
-- there is no miss.
use Rattle.hart_frame.proofs.Common.{◌≡◌, ℕ, ◌+◌, ◌<◌, ◌≤◌, List, ◌++◌, Option, None, Some, drop, get_or, length, take, ◌∙◌, arith, Layout}
use Rattle.hart_frame.proofs.Common.{length-append, nat_tests, get_or-take, get_or_append_left, length-take, take_all, take-append-drop}
use Rattle.hart_frame.proofs.Common.{take-append-le, take-take, All-from_get_or, All-take, slice_get, Cut, Wrong, Character, body_miss}
use Rattle.hart_frame.proofs.Common.{faultless_bytes, check_miss, miss_in, layout_length, IsOfBytes, IsPrefix, IsWrong, body_length}
use Rattle.hart_frame.proofs.Common.{byte_count_place, HasCheckByte, faulty_or, cut_miss, wrong_miss, refl, ◌≢◌, zero, suc, ◌⊎◌, inl, inr}
use Rattle.hart_frame.proofs.Common.{[], ◌∷◌, true, false, append_assoc, take-append_seam, common_steps, is_some, length-take-le, Miss}
use Rattle.hart_frame.proofs.Common.{OnePreamble, HasBodyAt, HasFrameAt, miss_of, IsStart, follows_preamble, is_start}
use Rattle.hart_frame.specs.declared.wire.prefix.Prefix.TheVariants.{Whole}
use Rattle.hart_frame.specs.declared.wire.prefix.Wrong.TheVariants.{BadCheck}
use Rattle.hart_frame.proofs.lemmas.wire.Parity.{odd}
use Rattle.hart_frame.proofs.lemmas.wire.Reading.{fold_fits, whole_has}
use Rattle.std.proofs.Math.Seq.{append_snoc, drop-cons, get_or-append_seam, take-suc}
use Rattle.hart_frame.specs.heard.InTheWay.{FollowsOnePreamble}
use Rattle.hart_frame.specs.heard.Miss.{follows_one_preamble}
use Rattle.hart_frame.proofs.lemmas.heard.FramesFound.{begins_at, body_of, start_of}
use Rattle.hart_frame.proofs.lemmas.heard.Place.{preamble, start_test, tested}
use Rattle.hart_frame.proofs.lemmas.wire.Refusal.{says}

-- Whether a check byte fits does not depend on the bytes after it.
checked : (xs ys : List ℕ) (f : Option Character) (fp start : ℕ) → HasCheckByte xs → miss_in (xs ++ ys) f fp start ≡ check_miss xs start
checked xs ys f fp start has = grind (arith, nat_tests, length-append, get_or_append_left, take-append-le)

-- If something is wrong with bytes, it is their miss, whatever follows.
pub wrong_told : (xs ys : List ℕ) (w : Wrong) (f : Option Character) (fp start : ℕ) → IsWrong xs w
    → miss_in (xs ++ ys) f fp start ≡ Some (wrong_miss w start)
wrong_told xs ys (BadCheck len byte fits) f fp start is =
    checked xs ys f fp start is.checked ∙ grind (arith, nat_tests, fold_fits xs len byte fits is, is.whole, is.stands, is.differs)
wrong_told xs ys w f fp start is = grind (arith, nat_tests, length-append, get_or_append_left)

-- Bytes that begin with a whole body have no miss, whatever follows.
pub whole_told : (xs ys : List ℕ) (layout : Layout) (f : Option Character) (fp start : ℕ) → IsPrefix xs (Whole layout)
    → miss_in (xs ++ ys) f fp start ≡ None
whole_told xs ys layout f fp start is =
    let has = whole_has xs layout is in
    checked xs ys f fp start has.0 ∙ grind (arith, nat_tests, has, is.1.even, odd xs (layout_length layout) is.1.fits)

-- Where bytes end too early, the miss is the character with fault bits after them. If there is no such character, the miss says what is
-- missing at the end.
pub cut_told : (xs : List ℕ) (missing : Option ℕ) (f : Option Character) (fp start : ℕ) → IsPrefix xs (Cut missing)
    → miss_in xs f fp start ≡ Some (faulty_or f fp (cut_miss missing))
cut_told xs missing f fp start is = grind (arith, nat_tests)

-- The first `most` faultless bytes that are heard decide the miss, since no body is longer.
module _ (heard : List Character) (start most : ℕ) (front : List ℕ) (is_front : front ≡ take most (faultless_bytes heard))
    (enough : 267 ≤ most) (fits : (i : ℕ) → get_or front i 0 < 256) where
  joined : front ++ drop most (faultless_bytes heard) ≡ faultless_bytes heard
  joined = rw is_front (take-append-drop most (faultless_bytes heard))

  pub front_wrong : (w : Wrong) → IsWrong front w → body_miss start heard ≡ Some (wrong_miss w start)
  front_wrong w is = grind (arith, joined, wrong_told)

  pub front_whole : (layout : Layout) → IsPrefix front (Whole layout) → body_miss start heard ≡ None
  front_whole layout is = grind (arith, joined, whole_told)

  pub front_cut : (missing : Option ℕ) → IsPrefix front (Cut missing)
      → body_miss start heard ≡ Some (faulty_or (slice_get heard (length front)) (start + length front) (cut_miss missing))
  front_cut missing is = grind (arith, length-take, take_all)

  fits_within : (i : ℕ) → i < most → get_or (faultless_bytes heard) i 0 < 256
  fits_within i below = let same = get_or-take most (faultless_bytes heard) i 0 below in rw same at (rw is_front at (fits i))

  pub of_bytes : IsOfBytes heard
  of_bytes =
      let all = faultless_bytes heard in
      let long : body_length all ≤ most = grind (arith, fits_within 0, fits_within (byte_count_place all)) in
      let same : take (body_length all) front ≡ take (body_length all) all = grind (arith, take-take) in
      rw same at (All-take (λ byte. byte < 256) (body_length all) front
      (All-from_get_or (λ byte. byte < 256) front 0 (λ i below. fits i)))

-- Where a body may start, the miss of the place is why no body begins there.
pub miss_of-start : (chars heard : List Character) (start : ℕ) → heard ≡ drop start chars → IsStart start chars
    → body_miss start heard ≡ miss_of chars start
miss_of-start chars heard start is starts = grind (arith, start_test chars start)

-- A miss belongs to a place where a body may start, or it is `OnePreamble` and a whole body stands after a single FF.
pub miss_of-some : (chars : List Character) (start : ℕ) (miss : Miss) → miss_of chars start ≡ Some miss
    → (IsStart start chars × (body_miss start (drop start chars) ≡ Some miss))
    ⊎ ((miss ≡ OnePreamble) × (follows_one_preamble chars start ≡ true) × (is_some (body_miss start (drop start chars)) ≡ false))
miss_of-some chars start miss is =
    let cases : (is_start chars start ≡ true) ⊎ (is_start chars start ≡ false) = grind arith in
    elim cases [ inl here ↦ inl ((start_test chars start).0 here, grind arith) | inr not_here ↦ inr (grind arith) ]

-- The test `follows_one_preamble` is true exactly if one FF, and no second one, stands right before a place.
pub one_preamble-is : (chars : List Character) (place : ℕ) → follows_one_preamble chars place ≡ true → FollowsOnePreamble chars place
one_preamble-is chars zero one = absurd (grind arith)
one_preamble-is chars (suc k) one =
    let at = tested chars k in
    let within : k < length chars = grind arith in
    record {
      prefix = take k chars;
      rest = drop (suc k) chars;
      split = grind (arith, common_steps, take-append-drop, drop-cons, preamble, append_snoc);
      place_is = omega (arith, within, length-take-le k chars (omega (arith, within)));
      alone = λ earlier is.
          let before = tested chars (length earlier) in
          grind (arith, common_steps, length-append, preamble, length-take-le, get_or-take, get_or-append_seam);
    }

no_second : (chars prefix rest : List Character) (k : ℕ) → chars ≡ prefix ++ preamble ∷ rest → k ≡ length prefix
    → ((earlier : List Character) → prefix ≢ earlier ++ preamble ∷ []) → follows_preamble chars k ≡ false
no_second chars prefix rest k split place alone = grind (arith, common_steps, tested, take-append_seam, take-suc)

pub one_preamble-yes : (chars : List Character) (place : ℕ) → FollowsOnePreamble chars place → follows_one_preamble chars place ≡ true
one_preamble-yes chars place is = grind (arith, common_steps, tested, no_second, length-append, append_assoc, get_or-append_seam)

-- Where a whole body stands, `body_miss` gives no miss.
pub none_of : (chars : List Character) (start : ℕ) → HasBodyAt chars start → body_miss start (drop start chars) ≡ None
none_of chars start has =
    let begins = begins_at chars start has in
    grind (arith, says (faultless_bytes (drop start chars)) has.frame (length has.body) begins, odd)

-- Where a frame stands, there is no miss.
pub no_miss : (place : ℕ) (chars : List Character) → HasFrameAt chars place → miss_of chars place ≡ None
no_miss place chars (found, stands, at) =
    let none = none_of chars found.start (body_of chars found 0 stands) in
    grind (arith, miss_of-start chars (drop found.start chars) found.start refl (start_of chars found 0 stands))
