-- The check byte of joined bytes, of a part of bytes, and of the lanes up to each lane.
use Rattle.hart_frame.proofs.Common.{◌≡◌, ℕ, zero, suc, ◌+◌, ◌-◌, ◌<◌, ◌≤◌, List, [], ◌∷◌, ◌++◌, refl, sym, ap, ◌∙◌, arith, bit_xor, take}
use Rattle.hart_frame.proofs.Common.{drop}
use Rattle.hart_frame.proofs.Common.{length, get_or, replicate, true, ltb, length-take-le, get_or_append_left, get_or-map, take-take}
use Rattle.hart_frame.proofs.Common.{IsCheckByte, get_or-take, common_steps, take-add, drop-drop, length-append, length-drop}
use Rattle.std.proofs.Common.{Bool, Fits, w8, cond, eqb, eqb-true, false, ltb-true, ltb-false}
use Rattle.std.proofs.lemmas.Bool.{agree_below, agree_below_at}
use Rattle.std.proofs.lemmas.List.Sums.{fold-append, sum_by-append}
use Rattle.std.proofs.lemmas.List.{get_or-append_right, get_or-replicate, length-map}
use Rattle.std.proofs.lemmas.Nat.{xor_comm, xor_of_8}
use Rattle.std.proofs.lemmas.Nat.Bits.{bit_at_xor}
use Rattle.std.proofs.lemmas.Simd.{get_or-zip2, length-zip2}
use Rattle.std.specs.Int.Bits.{xor_assoc, xor_zero_l, xor_zero_r}
use Rattle.std.specs.Simd.Lanes.{Each1, pick_l, zip2}
use Rattle.hart_frame.proofs.lemmas.wire.Lane.{take_more, xor_of}
use Rattle.hart_frame.proofs.lemmas.wire.Parity.{IsCheckByte-fold, fits_take}
use Rattle.hart_frame.specs.declared.wire.sums.Sums.{Sums}
use Rattle.hart_frame.specs.private.Sums.{AreSums}
use Rattle.hart_frame.specs.wire.Parity.{bit_count}

-- The bit count of joined bytes is that of both parts together.
bit_count-append : (bit : ℕ) (xs ys : List ℕ) → bit_count bit (xs ++ ys) ≡ bit_count bit xs + bit_count bit ys
bit_count-append bit xs ys = sum_by-append _ xs ys

-- The check byte of joined bytes is the exclusive or of the check bytes of both parts.
pub joined_check : (xs ys : List ℕ) (p q : ℕ) → IsCheckByte xs p → IsCheckByte ys q → IsCheckByte (xs ++ ys) (bit_xor p q)
joined_check xs ys p q of_xs of_ys = record {
  byte = xor_of_8 p q of_xs.byte of_ys.byte;
  odd = λ bit below. omega (arith, bit_at_xor p q bit, bit_count-append bit xs ys, of_xs.odd bit below, of_ys.odd bit below);
}

-- The check byte of a part is the exclusive or of the check bytes of the bytes up to its end and up to its start.
pub part_check : (xs : List ℕ) (a b p q : ℕ) → a ≤ b → IsCheckByte (take a xs) p → IsCheckByte (take b xs) q
    → IsCheckByte (take (b - a) (drop a xs)) (bit_xor q p)
part_check xs a b p q order before all = record {
  byte = xor_of_8 q p all.byte before.byte;
  odd = λ bit below.
      let both = ap (bit_count bit) (take_more xs a b order) ∙ bit_count-append bit (take a xs) (take (b - a) (drop a xs)) in
      omega (arith, bit_at_xor q p bit, both, before.odd bit below, all.odd bit below);
}

-- Each lane, joined by exclusive or with the lane that `places` selects for it from zeros and the lanes.
abbrev pub with_moved : List ℕ → List ℕ → List ℕ
with_moved lanes places = zip2 bit_xor lanes (pick_l 0 (replicate 16 0 ++ lanes) places)

-- Each lane has the exclusive or of the last `m` bytes up to this lane, or of all bytes up to it if there are fewer.
pub record SumsLast (m : ℕ) (xs lanes : List ℕ) : Type 0 where
  pub long : length lanes ≡ 16
  pub each : (lane : ℕ) → lane < 16 → xor_of (take (lane + 1) xs) ≡ bit_xor (xor_of (take (lane + 1 - m) xs)) (get_or lanes lane 0)

-- The bytes themselves are such lanes for `m` = 1.
pub sums_last_one : (xs : List ℕ) → length xs ≡ 16 → SumsLast 1 xs xs
sums_last_one xs long = record {
  long = long;
  each = λ lane below. grind (arith, common_steps, take_more xs lane (lane + 1), fold-append);
}

-- If the lane `m` places before a lane is joined to it, the lane sums twice as many bytes.
last_more : (m : ℕ) (xs lanes : List ℕ) → SumsLast m xs lanes → (lane : ℕ) → lane < 16 → (early : Bool) → ltb lane m ≡ early
    → xor_of (take (lane + 1) xs) ≡ bit_xor (xor_of (take (lane + 1 - (m + m)) xs))
    (bit_xor (get_or lanes lane 0) (get_or (replicate 16 0 ++ lanes) (cond early 0 (16 + lane - m)) 0))
last_more m xs lanes last lane below true is =
    let none : lane + 1 - m ≡ lane + 1 - (m + m) = omega (arith, ltb-true _ _ is) in
    last.each lane below ∙ ap (λ (k : ℕ). bit_xor (xor_of (take k xs)) (get_or lanes lane 0)) none
    ∙ ap (λ (x : ℕ). bit_xor (xor_of (take (lane + 1 - (m + m)) xs)) x) (sym (xor_zero_r (get_or lanes lane 0)))
last_more m xs lanes last lane below false is =
    let late : m ≤ lane = ltb-false _ _ is in
    let k = lane - m in
    let a = xor_of (take (lane + 1 - (m + m)) xs) in
    let x = get_or lanes lane 0 in
    let y = get_or lanes k 0 in
    let there : 16 + lane - m - 16 ≡ k = omega (arith, late) in
    let at : get_or (replicate 16 0 ++ lanes) (16 + lane - m) 0 ≡ y =
    get_or-append_right (replicate 16 0) lanes 16 (16 + lane - m) 0 refl (omega (arith, late)) ∙ ap (λ (i : ℕ). get_or lanes i 0) there in
    let now : lane + 1 - m ≡ k + 1 = omega (arith, late) in
    let back : k + 1 - m ≡ lane + 1 - (m + m) = omega (arith, late) in
    let old : xor_of (take (k + 1) xs) ≡ bit_xor a y =
    last.each k (omega (arith, below)) ∙ ap (λ (i : ℕ). bit_xor (xor_of (take i xs)) y) back in
    let sum : xor_of (take (lane + 1) xs) ≡ bit_xor (bit_xor a y) x =
    last.each lane below ∙ ap (λ (i : ℕ). bit_xor (xor_of (take i xs)) x) now ∙ ap (λ (b : ℕ). bit_xor b x) old in
    rw at (sum ∙ xor_assoc a y x ∙ ap (bit_xor a) (xor_comm y x))

-- If each lane is joined with the lane `m` places before it, the lanes sum twice as many bytes.
pub sums_last_more : (m : ℕ) (xs lanes places : List ℕ) → SumsLast m xs lanes → length places ≡ 16
    → agree_below (λ lane. eqb (get_or places lane 0) (cond (ltb lane m) 0 (16 + lane - m))) (λ lane. true) 16 ≡ true
    → SumsLast (m + m) xs (with_moved lanes places)
sums_last_more m xs lanes places last long all =
    let zeros : List ℕ = replicate 16 0 in
    let moved = pick_l 0 (zeros ++ lanes) places in
    let wide : length moved ≡ 16 = length-map places (λ i. get_or (zeros ++ lanes) i 0) ∙ long in
    let wide_moved : length lanes ≡ length moved = omega (arith, last.long, wide) in
    record {
      long = length-zip2 bit_xor lanes moved wide_moved ∙ last.long;
      each = λ lane below.
          let places_are : ℕ → Bool = λ k. eqb (get_or places k 0) (cond (ltb k m) 0 (16 + k - m)) in
          let place : get_or places lane 0 ≡ cond (ltb lane m) 0 (16 + lane - m) =
          eqb-true _ _ (agree_below_at places_are (λ i. true) 16 lane all below) in
          let at : get_or moved lane 0 ≡ get_or (zeros ++ lanes) (cond (ltb lane m) 0 (16 + lane - m)) 0 =
          get_or-map (λ i. get_or (zeros ++ lanes) i 0) places lane 0 0 (omega (arith, long, below))
          ∙ ap (λ i. get_or (zeros ++ lanes) i 0) place in
          let joined : get_or (zip2 bit_xor lanes moved) lane 0 ≡ bit_xor (get_or lanes lane 0) (get_or moved lane 0) =
          get_or-zip2 bit_xor lanes moved lane 0 0 0 (omega (arith, last.long, below)) (omega (arith, wide, below)) in
          rw joined (rw at (last_more m xs lanes last lane below (ltb lane m) refl));
    }

-- Places move lanes up by `m`: those of the first `m` lanes select zeros, and those of the others select the lanes from the first on.
abbrev pub moves : ℕ → List ℕ → Bool
moves m places = agree_below (λ lane. eqb (get_or places lane 0) (cond (ltb lane m) 0 (16 + lane - m))) (λ lane. true) 16

-- After the lanes 1, 2, 4 and 8 places before were joined in turn, each lane sums all bytes up to it.
pub sums_last_all : (xs : List ℕ) → length xs ≡ 16 → (one two four eight : List ℕ) → length one ≡ 16 → length two ≡ 16
    → length four ≡ 16 → length eight ≡ 16 → moves 1 one ≡ true → moves 2 two ≡ true → moves 4 four ≡ true → moves 8 eight ≡ true
    → SumsLast 16 xs (with_moved (with_moved (with_moved (with_moved xs one) two) four) eight)
sums_last_all xs long one two four eight l1 l2 l4 l8 m1 m2 m4 m8 =
    sums_last_more 8 xs _ eight
    (sums_last_more 4 xs _ four (sums_last_more 2 xs _ two (sums_last_more 1 xs xs one (sums_last_one xs long) l1 m1) l2 m2) l4 m4) l8 m8

-- Lanes that fit a byte are below 256, and so is the 0 that is read past their end.
pub fits_lanes : (xs : List ℕ) → Each1 (Fits w8) xs → (i : ℕ) → get_or xs i 0 < 256
fits_lanes [] fits i = omega arith
fits_lanes (x ∷ xs) fits zero = fits.0.fits
fits_lanes (x ∷ xs) fits (suc i) = fits_lanes xs fits.1 i

-- Lanes that sum all bytes up to each lane are the check bytes of these bytes.
pub running_checks : (xs lanes : List ℕ) → SumsLast 16 xs lanes → ((i : ℕ) → get_or xs i 0 < 256)
    → (lane : ℕ) → lane < 16 → IsCheckByte (take (lane + 1) xs) (get_or lanes lane 0)
running_checks xs lanes last each lane below =
    let none : lane + 1 - 16 ≡ 0 = omega (arith, below) in
    IsCheckByte-fold (take (lane + 1) xs) (get_or lanes lane 0) (fits_take xs (lane + 1) each)
    (sym (last.each lane below ∙ ap (λ (k : ℕ). bit_xor (xor_of (take k xs)) (get_or lanes lane 0)) none ∙ xor_zero_l _))

-- From the check bytes of all prefixes of up to `n` bytes, and from the next sixteen bytes, come the check bytes of sixteen longer
-- prefixes.
pub checks_on : (xs checks block run rest : List ℕ) (n : ℕ)
    → ((count : ℕ) → count ≤ n → IsCheckByte (take count xs) (get_or checks count 0)) → n + 1 ≤ length checks
    → block ≡ take 16 (drop n xs) → length run ≡ 16
    → ((lane : ℕ) → lane < 16 → IsCheckByte (take (lane + 1) block) (get_or run lane 0))
    → (count : ℕ) → count ≤ n + 16
    → IsCheckByte (take count xs) (get_or (take (n + 1) checks ++ (zip2 bit_xor (replicate 16 (get_or checks n 0)) run ++ rest)) count 0)
checks_on xs checks block run rest n before room is wide each count few =
    let added_wide : length added ≡ 16 = length-zip2 bit_xor (replicate 16 (get_or checks n 0)) run (sym wide) in
    let kept = length-take-le (n + 1) checks room in
    go added_wide kept (ltb n count) refl
  where
    added : List ℕ
    added = zip2 bit_xor (replicate 16 (get_or checks n 0)) run

    go : length added ≡ 16 → length (take (n + 1) checks) ≡ n + 1 → (late : Bool) → ltb n count ≡ late
        → IsCheckByte (take count xs) (get_or (take (n + 1) checks ++ (added ++ rest)) count 0)
    go added_wide kept false early =
        let at : get_or (take (n + 1) checks ++ (added ++ rest)) count 0 ≡ get_or checks count 0 =
        get_or_append_left (take (n + 1) checks) (added ++ rest) 0 count (omega (arith, kept, ltb-false _ _ early))
        ∙ get_or-take (n + 1) checks count 0 (omega (arith, ltb-false _ _ early)) in
        rw at (before count (omega (arith, ltb-false _ _ early)))
    go added_wide kept true late =
        let lane = count - (n + 1) in
        let is_late = ltb-true _ _ late in
        let same : count ≡ n + (lane + 1) = omega (arith, is_late) in
        let small : lane < 16 = omega (arith, few, is_late) in
        let at : get_or (take (n + 1) checks ++ (added ++ rest)) count 0 ≡ get_or added lane 0 =
        get_or-append_right (take (n + 1) checks) (added ++ rest) (n + 1) count 0 kept (omega (arith, is_late))
        ∙ get_or_append_left added rest 0 lane (omega (arith, added_wide, small)) in
        let sum : get_or added lane 0 ≡ bit_xor (get_or checks n 0) (get_or run lane 0) =
        get_or-zip2 bit_xor (replicate 16 (get_or checks n 0)) run lane 0 0 0 small (omega (arith, wide, small))
        ∙ ap (λ (x : ℕ). bit_xor x (get_or run lane 0)) (get_or-replicate 16 lane (get_or checks n 0) 0 small) in
        let after = ap (take (lane + 1)) is ∙ take-take (lane + 1) 16 (drop n xs) (omega (arith, small)) in
        let part : IsCheckByte (take (lane + 1) (drop n xs)) (get_or run lane 0) = rw after at (each lane small) in
        let parts : take count xs ≡ take n xs ++ take (lane + 1) (drop n xs) = ap (λ (k : ℕ). take k xs) same ∙ take-add n (lane + 1) xs in
        rw (at, sum, parts) (joined_check (take n xs) (take (lane + 1) (drop n xs)) _ _ (before n (omega arith)) part)

-- The check byte of a part of summed bytes is the exclusive or of two of the sums.
pub sums_part : (bytes : List ℕ) (sums : Sums) (start stop : ℕ) → AreSums bytes sums → sums.from ≤ start → start ≤ stop → stop ≤ sums.to
    → IsCheckByte (take (stop - start) (drop start bytes))
    (bit_xor (get_or sums.checks (stop - sums.from) 0) (get_or sums.checks (start - sums.from) 0))
sums_part bytes sums start stop is after order reached =
    let a = start - sums.from in
    let b = stop - sums.from in
    let part = part_check (drop sums.from bytes) a b _ _ (omega arith) (is.checks a (omega arith)) (is.checks b (omega arith)) in
    let len : b - a ≡ stop - start = omega arith in
    let place : sums.from + a ≡ start = omega arith in
    let there : drop a (drop sums.from bytes) ≡ drop start bytes = grind (arith, drop-drop) in
    rw (len, there) at part

-- If the check bytes of one more block are added to sums, they are sums of the bytes up to the end of this block.
pub sums_block : (bytes : List ℕ) (sums : Sums) (run added : List ℕ) → AreSums bytes sums → sums.to + 16 ≤ length bytes
    → sums.to + 16 ≤ sums.from + 1264 → length run ≡ 16
    → ((lane : ℕ) → lane < 16 → IsCheckByte (take (lane + 1) (take 16 (drop sums.to bytes))) (get_or run lane 0))
    → added ≡ zip2 bit_xor (replicate 16 (get_or sums.checks (sums.to - sums.from) 0)) run
    → AreSums bytes (record {
      from = sums.from;
      to = sums.to + 16;
      checks = take (sums.to - sums.from + 1) sums.checks ++ (added ++ drop 16 (drop (sums.to - sums.from + 1) sums.checks));
    })
sums_block bytes sums run added is within room wide each are =
    let n = sums.to - sums.from in
    let splat : List ℕ = replicate 16 (get_or sums.checks n 0) in
    let rest = drop 16 (drop (n + 1) sums.checks) in
    let there : drop n (drop sums.from bytes) ≡ drop sums.to bytes =
    let place : sums.from + n ≡ sums.to = omega (arith, is.order) in grind (arith, drop-drop) in
    let block : take 16 (drop sums.to bytes) ≡ take 16 (drop n (drop sums.from bytes)) = ap (take 16) (sym there) in
    let added_wide : length added ≡ 16 = ap length are ∙ length-zip2 bit_xor splat run (sym wide) in
    let few : n + 1 + 16 ≤ length sums.checks = omega (arith, is.full, room) in
    record {
      order = omega (arith, is.order);
      within = omega (arith, within);
      room = omega (arith, room);
      full =
          let front = take (n + 1) sums.checks in
          let all = length-append front (added ++ rest) in
          let end = length-append added rest in
          let left = length-drop 16 (drop (n + 1) sums.checks) in
          let kept = length-take-le (n + 1) sums.checks (omega (arith, few)) in
          omega (arith, all, end, left, length-drop (n + 1) sums.checks, kept, added_wide, is.full, few);
      checks = λ count few.
          rw are (checks_on (drop sums.from bytes) sums.checks _ run rest n (λ k below. is.checks k (omega (arith, is.order, below)))
          (omega (arith, is.full, room)) block wide each count (omega (arith, is.order, few)));
    }
