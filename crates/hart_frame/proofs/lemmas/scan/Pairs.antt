-- The next pair among sixteen places, by lanes.
use Rattle.hart_frame.proofs.Common.{◌≡◌, ℕ, zero, suc, ◌+◌, ◌-◌, ◌%◌, ◌<◌, ◌≤◌, Bool, true, false, not, ◌&&◌, List, [], ◌∷◌, map, sym}
use Rattle.hart_frame.proofs.Common.{length, take, drop, get_or, replicate, bit_and, refl, ap, ◌∙◌, subst, arith, add-zero, length-drop}
use Rattle.hart_frame.proofs.Common.{nat_tests, drop_more, length-map, length-take-le, range_with_len, HasNoPair, HasPair, prefix_len}
use Rattle.std.proofs.Common.{◌^◌, eqb, cond}
use Rattle.std.proofs.lemmas.Bool.{not-true, not-false}
use Rattle.std.proofs.lemmas.List.FromFn.{get_or-range_with_len, length-range_with_len}
use Rattle.std.proofs.lemmas.List.Sums.{prefix_len-le-length, prefix_len_passes, prefix_len_stops}
use Rattle.std.proofs.lemmas.Simd.{leading_from_mask_l, map-map, mask_l-mod, trailing_mask_l, zip2_of_maps, zip2_splat}
use Rattle.std.specs.Simd.Lanes.{mask_l, top, zip2}
use lib.Count.{count_trailing_zeros}
use Rattle.hart_frame.specs.private.Search.{IsNextPair}

-- If `n` bytes are read from place `p` on, and again from a place `d` later on, each byte stands `d` places later.
bytes_at : (bs : List ℕ) (p d i n : ℕ) → i ≡ p + d → i + n ≤ length bs
    → take n (drop i bs) ≡ map (λ (k : ℕ). get_or bs (k + d) 0) (range_with_len p n)
bytes_at bs p d i zero is within = refl
bytes_at bs p d i (suc n) is within = grind (arith, drop_more bs i 0, bytes_at bs (p + 1) d (i + 1) n)

-- The top bit of the common bits of three lanes is set exactly if each of the three lanes is all ones.
common : (a b c : Bool) → top 7 (bit_and (bit_and (cond a 255 0) (cond b 255 0)) (cond (not c) 255 0)) ≡ (a && (b && not c))
common a b c = grind (arith, nat_tests)

-- If a bit of a mask is set, some element passes the test.
passes_some : (test : ℕ → Bool) (xs : List ℕ) → 0 < mask_l (map test xs) → prefix_len (λ x. not (test x)) xs < length xs
passes_some test [] some = absurd (omega arith)
passes_some test (x ∷ xs) some = grind (arith, nat_tests, passes_some test xs)

-- `equal`: a lane that is all ones if two bytes are equal, and 0 if they differ. `differ` is the reverse.
abbrev equal : ℕ → ℕ → ℕ
equal a b = cond (eqb a b) 255 0

abbrev unequal : ℕ → ℕ → ℕ
unequal a b = cond (not (eqb a b)) 255 0

-- Eighteen bytes from a place on are compared with FF.
module _ (bs : List ℕ) (place : ℕ) (room : place + 18 ≤ length bs) where
  abbrev places : List ℕ
  places = range_with_len place 16

  sixteen : length places ≡ 16
  sixteen = length-range_with_len place 16

  -- The byte at a distance from a place.
  abbrev byte : ℕ → ℕ → ℕ
  byte d k = get_or bs (k + d) 0

  abbrev lane : ℕ → ℕ
  lane k = bit_and (bit_and (equal (byte 0 k) 255) (equal (byte 1 k) 255)) (unequal (byte 2 k) 255)

  compared : (by : ℕ → ℕ → ℕ) (d i : ℕ) → i ≡ place + d → d ≤ 2
      → zip2 by (take 16 (drop i bs)) (replicate 16 255) ≡ map (λ (k : ℕ). by (byte d k) 255) places
  compared by d i is few =
      let long : length (take 16 (drop i bs)) ≡ 16 = omega (arith, length-take-le 16 (drop i bs), length-drop i bs) in
      zip2_splat by (take 16 (drop i bs)) 16 255 long ∙ ap (map (λ (x : ℕ). by x 255)) (bytes_at bs place d i 16 is (omega arith))
      ∙ map-map (λ (x : ℕ). by x 255) (byte d) places

  abbrev lanes : List ℕ
  lanes =
      zip2 bit_and
      (zip2 bit_and (zip2 equal (take 16 (drop place bs)) (replicate 16 255))
      (zip2 equal (take 16 (drop (place + 1) bs)) (replicate 16 255)))
      (zip2 unequal (take 16 (drop (place + 2) bs)) (replicate 16 255))

  by_place : lanes ≡ map lane places
  by_place =
      let first = compared equal 0 place (sym (add-zero place)) (omega arith) in
      let second = compared equal 1 (place + 1) refl (omega arith) in
      let third = compared unequal 2 (place + 2) refl (omega arith) in
      let both = zip2_of_maps bit_and (λ (k : ℕ). equal (byte 0 k) 255) (λ (k : ℕ). equal (byte 1 k) 255) places first second in
      zip2_of_maps bit_and (λ (k : ℕ). bit_and (equal (byte 0 k) 255) (equal (byte 1 k) 255)) (λ (k : ℕ). unequal (byte 2 k) 255) places
      both third

  abbrev hits : ℕ → Bool
  hits k = top 7 (lane k)

  abbrev mask : ℕ
  mask = mask_l (map (top 7) lanes) % 2 ^ 64

  mask_is : mask ≡ mask_l (map hits places)
  mask_is =
      ap (λ (l : List ℕ). mask_l (map (top 7) l) % 2 ^ 64) by_place
      ∙ ap (λ (l : List Bool). mask_l l % 2 ^ 64) (map-map (top 7) lane places)
      ∙ mask_l-mod (map hits places) 64 (omega (arith, length-map places hits, sixteen))

  hits_is : (k : ℕ) → hits k ≡ (eqb (get_or bs k 0) 255 && (eqb (get_or bs (k + 1) 0) 255 && not (eqb (get_or bs (k + 2) 0) 255)))
  hits_is k = grind (arith, nat_tests, common, add-zero)

  hit : (k : ℕ) → k < place + 16 → hits k ≡ true → HasPair bs k
  hit k below is = grind (arith, nat_tests, hits_is k)

  abbrev before : ℕ
  before = prefix_len (λ k. not (hits k)) places

  passed : (k : ℕ) → place ≤ k → k < place + before → HasPair bs k → ⊥
  passed k after below pair =
      let few = prefix_len-le-length (λ k. not (hits k)) places in
      let at : get_or places (k - place) 0 ≡ k =
      get_or-range_with_len place 16 (k - place) 0 (omega (arith, few, sixteen)) ∙ omega arith in
      let none = subst (λ (x : ℕ). hits x ≡ false) at
      (not-true _ (prefix_len_passes (λ k. not (hits k)) places (k - place) 0 (omega arith))) in
      grind (arith, nat_tests, hits_is k)

  -- If no bit of the mask is set, no pair stands at these places.
  pub no_pair_in_lanes : mask ≡ 0 → HasNoPair bs place (place + 16)
  no_pair_in_lanes none k after below = grind (arith, nat_tests, leading_from_mask_l, mask_is, passed, sixteen)

  -- The lowest set bit of the mask is that of the next pair.
  pub pair_in_lanes : 0 < mask → IsNextPair bs place (place + count_trailing_zeros 64 mask)
  pair_in_lanes some =
      let found : 0 < mask_l (map hits places) = omega (arith, mask_is) in
      let short = passes_some hits places found in
      let is : count_trailing_zeros 64 mask ≡ before =
      ap (count_trailing_zeros 64) mask_is ∙ trailing_mask_l hits 64 places (omega (arith, sixteen)) found in
      let at : get_or places before 0 ≡ place + before = get_or-range_with_len place 16 before 0 (omega (arith, sixteen)) in
      let set = subst (λ (x : ℕ). hits x ≡ true) at (not-false _ (prefix_len_stops (λ k. not (hits k)) places 0 short)) in
      let next : IsNextPair bs place (place + before) = record {
        after = omega arith;
        pair = hit (place + before) (omega (arith, sixteen)) set;
        passed = passed;
      } in
      subst (λ (n : ℕ). IsNextPair bs place (place + n)) (sym is) next
