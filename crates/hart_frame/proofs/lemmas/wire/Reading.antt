-- How bytes begin as a body, and what follows from it.
use Rattle.hart_frame.proofs.lemmas.wire.Parity.{fit_before, IsCheckByte-fold, before_last, changed, even-check, fits-is, odd}
use Rattle.hart_frame.proofs.Common.{◌≡◌, ◌≢◌, ℕ, ◌-◌, ◌<◌, ◌≤◌, inl, inr, List, Option, None, Some, refl, fold, bit_xor, get_or, length}
use Rattle.hart_frame.proofs.Common.{take, drop, arith, get_or-take, get_or_past, length-take, length-take-le, take-append-drop, take-take}
use Rattle.hart_frame.proofs.Common.{All-from_get_or, All, Layout, Cut, Wrong, Describes, layout_length, IsPrefix, IsWrong, body_length}
use Rattle.hart_frame.proofs.Common.{byte_count_place, IsCheckByte, HasCheckByte, IsRefusedWith, IsTruncated}
use Rattle.hart_frame.specs.declared.wire.prefix.Prefix.TheVariants.{Whole}
use Rattle.hart_frame.specs.declared.wire.prefix.Wrong.TheVariants.{BadCheck}
use Rattle.hart_frame.specs.private.Prefix.{HasBadCheck, IsWholeBody, fault_in, shown_by}
use Rattle.hart_frame.proofs.lemmas.wire.Refusal.{Describes-prefix, HasCheckByte-prefix, HasGoodByteCount-more, good_prefix, length_more}
use Rattle.hart_frame.proofs.lemmas.wire.Truncated.{truncated_check, truncated_count}

-- A layout describes bytes that reach their check byte.
module _ (layout : Layout) (xs : List ℕ) (len check : ℕ) (has : HasCheckByte xs) (is : Describes layout xs)
    (same : len ≡ layout_length layout) (within : len ≤ length xs) (checks : IsCheckByte (take len xs) check)
    (fits : (i : ℕ) → get_or xs i 0 < 256) where
  are_bytes : All (λ byte. byte < 256) (take len xs)
  are_bytes = All-from_get_or (λ byte. byte < 256) (take len xs) 0 (λ i below. grind (arith, get_or-take, length-take, fits i))

  -- If the parity of these bytes is even, they begin with a whole body.
  pub whole_prefix : check ≡ 0 → IsPrefix xs (Whole layout)
  whole_prefix even =
      grind (arith, take-append-drop len xs, length-take-le, HasCheckByte-prefix, Describes-prefix, are_bytes, even-check)

  fitting : bit_xor check (get_or xs (len - 1) 0) ≡ fold bit_xor 0 (take (len - 1) xs)
  fitting =
      let all = fits-is (take len xs) check are_bytes checks in
      grind (arith, get_or-take, before_last (take len xs) (len - 1), length-take-le len xs within, take-take)

  -- If the parity of these bytes is not even, their check byte does not fit.
  pub odd_prefix : check ≢ 0 → HasBadCheck xs len (get_or xs (len - 1) 0) (bit_xor check (get_or xs (len - 1) 0))
  odd_prefix other = grind (arith, fitting, IsCheckByte-fold, get_or-take, get_or_past, length-take, changed, are_bytes)

-- Bytes that reach their check byte begin with a whole body if their parity is even.
pub whole_even : (layout : Layout) (xs : List ℕ) → HasCheckByte xs → Describes layout xs → layout_length layout ≤ length xs
    → IsCheckByte (take (layout_length layout) xs) 0 → ((i : ℕ) → get_or xs i 0 < 256) → IsWholeBody layout (take (layout_length layout) xs)
whole_even layout xs has is within checks fits = (whole_prefix layout xs (layout_length layout) 0 has is refl within checks fits refl).1

-- If their parity is not even, their check byte does not fit.
pub odd_check : (layout : Layout) (xs : List ℕ) (check : ℕ) → HasCheckByte xs → Describes layout xs → layout_length layout ≤ length xs
    → IsCheckByte (take (layout_length layout) xs) check → ((i : ℕ) → get_or xs i 0 < 256) → check ≢ 0
    → HasBadCheck xs (layout_length layout) (get_or xs (layout_length layout - 1) 0)
    (bit_xor check (get_or xs (layout_length layout - 1) 0))
odd_check layout xs check has is within checks fits other =
    odd_prefix layout xs (layout_length layout) check has is refl within checks fits other

-- The check byte that would fit is the exclusive or of the bytes before it.
pub fold_fits : (xs : List ℕ) (len byte fits : ℕ) → HasBadCheck xs len byte fits → fits ≡ fold bit_xor 0 (take (len - 1) xs)
fold_fits xs len byte fits is = fits-is (take (len - 1) xs) fits (fit_before xs len is.are_bytes) is.fitting

-- It takes at least one byte, and at most all of them, to show what is wrong.
pub wrong_within : (xs : List ℕ) (w : Wrong) → IsWrong xs w → (0 < shown_by w) × (shown_by w ≤ length xs)
wrong_within xs w is = grind arith

-- It takes at most 267 bytes to show what is wrong.
pub wrong_few : (xs : List ℕ) (w : Wrong) → ((i : ℕ) → get_or xs i 0 < 256) → IsWrong xs w → shown_by w ≤ 267
wrong_few xs w fits is = grind (arith, fits 0, fits (byte_count_place xs))

-- The bytes that show what is wrong show it without the bytes after them.
pub wrong_shown : (xs : List ℕ) (w : Wrong) → IsWrong xs w → IsWrong (take (shown_by w) xs) w
wrong_shown xs w is = grind (arith, length-take-le, get_or-take, good_prefix, take-take)

-- If a prefix has fewer bytes than are needed to show what is wrong, it ends too early for a body.
pub wrong_fewer : (xs : List ℕ) (w : Wrong) → IsWrong xs w → (fewer : ℕ) → fewer < shown_by w → IsTruncated (take fewer xs)
wrong_fewer xs w is fewer below = grind (arith, length-take, truncated_count, truncated_check)

-- Bytes with something wrong are refused with the fault that `fault_in` gives for it.
pub wrong_refused : (xs : List ℕ) (w : Wrong) → IsWrong xs w → IsRefusedWith xs (fault_in w)
wrong_refused xs (BadCheck len byte fits) is = grind (arith, fold_fits xs len byte fits is, odd xs len is.are_bytes)
wrong_refused xs w is = is.0

-- Bytes end too early for a body exactly if they begin as `Cut` says.
pub cut_truncated : (xs : List ℕ) (missing : Option ℕ) → IsPrefix xs (Cut missing) → IsTruncated xs
cut_truncated xs missing is = grind arith

pub truncated_cut : (xs : List ℕ) → IsTruncated xs → (missing : Option ℕ) × IsPrefix xs (Cut missing)
truncated_cut xs (inl none) = (None, (inl none, λ has. absurd (omega (arith, none, has.1))))
truncated_cut xs (inr (inl (has, early))) = (None, (inr (inl (has, early)), λ count. absurd (omega (arith, early, count.1))))
truncated_cut xs (inr (inr (good, early))) =
    (Some (body_length xs - length xs), (good, omega (arith, early), omega (arith, early)))

-- Bytes that begin with a whole body reach its check byte. The length of the body is that of its layout, and at most 267.
pub whole_has : (xs : List ℕ) (layout : Layout) → IsPrefix xs (Whole layout)
    → HasCheckByte xs × (body_length xs ≡ layout_length layout) × (layout_length layout ≤ 267)
whole_has xs layout (within, is) =
    let n = layout_length layout in
    grind (arith, take-append-drop n xs, length_more (take n xs) (drop n xs), HasGoodByteCount-more (take n xs) (drop n xs))
