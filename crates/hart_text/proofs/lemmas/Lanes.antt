-- Lanes that are computed from bytes: what a lane holds is compared with a test for each of the 256 values of a byte.
use Rattle.std.proofs.Common.{◌≡◌, ◌↔◌, ◌∙◌, ℕ, ◌+◌, ◌-◌, ◌*◌, ◌<◌, ◌≤◌, ◌%◌, ◌^◌, bit_and, refl, ap, ap₂, arith, w8, w64, Fits, Bool, true}
use Rattle.std.proofs.Common.{false, not, ◌||◌, ◌&&◌, IsTrue, cond, eqb, eqb-true, ltb, ltb-true, ltb-false, sym, take-add, List, [], ◌∷◌}
use Rattle.std.proofs.Common.{◌++◌, length, map, take, drop, get_or, replicate}
use Rattle.std.proofs.lemmas.Bool.{agree_below, agree_below_at, and_parts}
use Rattle.std.proofs.lemmas.Grind.{common_steps}
use Rattle.std.proofs.lemmas.List.{get_or-append_right, get_or-drop, get_or-map, get_or-take, get_or_append_left, length-map, length-take}
use Rattle.std.proofs.lemmas.Nat.Bits.{bit_at-lt, bit_at-trailing_ones, bit_at_and}
use Rattle.std.proofs.lemmas.Nat.{and_le_l}
use Rattle.std.proofs.lemmas.Simd.{Each1-get_or, bit_mask_l, get_or-zip2, length-zip2, map-map, mask_l-lt, mask_l-mod, zip2_splat}
use Rattle.std.specs.Int.{bit_at, trailing_ones}
use lib.Lanes.{Each1, mask_l, pick_l, sel_l, top, zip2}
use Rattle.hart_text.specs.Item.{byte_of, hex_value}
use Rattle.hart_text.specs.Digits.{AreLeading, IsMask}

-- There are sixteen lanes, and each holds a byte.
abbrev pub AreBytes : List ℕ → Type 0
AreBytes lanes = (length lanes ≡ 16) × Each1 (Fits w8) lanes

-- If a test agrees with the highest bit of a lane at each byte, it says the highest bits of all lanes.
tops_are : (f : ℕ → ℕ) (test : ℕ → Bool) (lanes : List ℕ) → Each1 (Fits w8) lanes → agree_below (λ x. top 7 (f x)) test 256 ≡ true
    → map (top 7) (map f lanes) ≡ map test lanes
tops_are f test [] fits all = refl
tops_are f test (x ∷ xs) fits all =
    ap₂ (λ a b. a ∷ b) (agree_below_at (λ y. top 7 (f y)) test 256 x all fits.0.fits) (tops_are f test xs fits.1 all)

-- A bit that a test sets is 1 if the test passes, and only then.
one_if : (b : Bool) (bit : ℕ) → bit ≡ cond b 1 0 → (bit ≡ 1) ↔ IsTrue b
one_if true bit is = (λ _. refl, λ _. is)
one_if false bit is = (λ one. absurd (omega (arith, is, one)), λ no. absurd cc)

-- If a test agrees with the highest bit of a lane at each byte, a mask of the lanes says which bytes pass the test.
pub mask_is : (f : ℕ → ℕ) (test : ℕ → Bool) (bytes lanes : List ℕ) → AreBytes bytes → lanes ≡ map f bytes
    → agree_below (λ x. top 7 (f x)) test 256 ≡ true
    → IsMask (mask_l (map (top 7) lanes) % 2 ^ 64) (λ lane. IsTrue (test (get_or bytes lane 0)))
mask_is f test bytes lanes are is all =
    let long : length (map test bytes) ≡ 16 = length-map bytes test ∙ are.0 in
    let same : mask_l (map (top 7) lanes) % 2 ^ 64 ≡ mask_l (map test bytes) =
    ap (λ l. mask_l l % 2 ^ 64) (ap (map (top 7)) is ∙ tops_are f test bytes are.1 all)
    ∙ mask_l-mod (map test bytes) 64 (omega (arith, long)) in
    record {
      small = omega (arith, same, mask_l-lt (map test bytes), ap (λ n. 2 ^ n) long);
      bits = λ lane below.
          let at : get_or (map test bytes) lane false ≡ test (get_or bytes lane 0) =
          get_or-map test bytes lane 0 false (omega (arith, are.0, below)) in
          let bit : bit_at (mask_l (map test bytes)) lane ≡ cond (test (get_or bytes lane 0)) 1 0 =
          bit_mask_l (map test bytes) lane ∙ ap (λ b. cond b 1 0) at in
          rw same (one_if (test (get_or bytes lane 0)) _ bit);
    }

-- If two numbers are equal whenever a test passes, and the test passes, the numbers are equal.
equal : (b : Bool) (m n : ℕ) → IsTrue b → (not b || eqb m n) ≡ true → m ≡ n
equal true m n passes same = eqb-true m n same
equal false m n passes same = absurd cc

-- Lanes that are selected from lanes of the same bytes are computed from these bytes.
selected : (test : ℕ → Bool) (f g : ℕ → ℕ) (bytes : List ℕ)
    → sel_l (map test bytes) (map f bytes) (map g bytes) ≡ map (λ x. cond (test x) (f x) (g x)) bytes
selected test f g [] = refl
selected test f g (x ∷ xs) = ap (λ r. cond (test x) (f x) (g x) ∷ r) (selected test f g xs)

-- If three lists of lanes are computed from the same bytes, so are the lanes that the first selects from the others.
pub selected_is : (f g h : ℕ → ℕ) (bytes mask xs ys : List ℕ) → mask ≡ map f bytes → xs ≡ map g bytes → ys ≡ map h bytes
    → sel_l (map (top 7) mask) xs ys ≡ map (λ x. cond (top 7 (f x)) (g x) (h x)) bytes
selected_is f g h bytes mask xs ys is left right =
    rw (is, left, right, map-map (top 7) f bytes) (selected (λ x. top 7 (f x)) g h bytes)

-- If a lane has the right value at each byte that passes a test, all lanes of such bytes have the right values.
pub values_are : (f value : ℕ → ℕ) (test : ℕ → Bool) (bytes lanes : List ℕ) → AreBytes bytes → lanes ≡ map f bytes
    → agree_below (λ x. not (test x) || eqb (f x) (value x)) (λ x. true) 256 ≡ true
    → (lane : ℕ) → lane < 16 → IsTrue (test (get_or bytes lane 0)) → get_or lanes lane 0 ≡ value (get_or bytes lane 0)
values_are f value test bytes lanes are is all lane below passes =
    let within : lane < length bytes = omega (arith, are.0, below) in
    let byte = get_or bytes lane 0 in
    let at : get_or lanes lane 0 ≡ f byte = ap (λ l. get_or l lane 0) is ∙ get_or-map f bytes lane 0 0 within in
    let small = Each1-get_or (Fits w8) bytes lane 0 within are.1 in
    let same = agree_below_at (λ x. not (test x) || eqb (f x) (value x)) (λ x. true) 256 byte all small.fits in
    at ∙ equal (test byte) (f byte) (value byte) passes same

-- The common bits of two masks say for which lanes both things are true.
pub both : (m n : ℕ) (P Q : ℕ → Type 0) → IsMask m P → IsMask n Q → IsMask (bit_and m n) (λ lane. P lane × Q lane)
both m n P Q of_m of_n = record {
  small = omega (arith, and_le_l m n, of_m.small);
  bits = λ lane below.
      let at = bit_at_and m n lane in
      let (from_m, to_m) = of_m.bits lane below in
      let (from_n, to_n) = of_n.bits lane below in
      let bits : (bit_at m lane < 2) × (bit_at n lane < 2) = (bit_at-lt m lane, bit_at-lt n lane) in (
        λ one. (from_m (omega (arith, at, one, bits)), from_n (omega (arith, at, one, bits))),
        λ are. omega (arith, at, to_m are.0, to_n are.1),
      );
}

-- The value of a digit is below 16.
hex_value-lt : (digit : ℕ) → hex_value digit < 16
hex_value-lt digit = grind (arith, common_steps)

-- Lanes hold bytes, of which two other vectors hold the upper and the lower digits.
pub record Pairs (high low bytes : List ℕ) : Type 0 where
  pub long : length bytes ≡ 16
  pub each : (lane : ℕ) → lane < 16 → (x y : ℕ) → get_or high lane 0 ≡ hex_value x → get_or low lane 0 ≡ hex_value y
      → get_or bytes lane 0 ≡ byte_of x y

pub paired : (high low : List ℕ) → length high ≡ 16 → length low ≡ 16
    → Pairs high low (zip2 (λ a b. (a + b) % 256) (zip2 (λ a b. a * 2 ^ b % 256) high (replicate 16 4)) low)
paired high low long_high long_low =
    let upper = zip2_splat (λ a b. a * 2 ^ b % 256) high 16 4 long_high in
    let long : length (map (λ a. a * 16 % 256) high) ≡ 16 = length-map high (λ a. a * 16 % 256) ∙ long_high in
    rw upper (record {
      long = length-zip2 _ _ low (omega (arith, long, long_low)) ∙ long;
      each = λ lane below x y is_high is_low.
          let upper_at = map (λ a. a * 16 % 256) high in
          let in_upper : lane < length upper_at = omega (arith, long, below) in
          let in_low : lane < length low = omega (arith, long_low, below) in
          let at = get_or-zip2 (λ a b. (a + b) % 256) upper_at low lane 0 0 0 in_upper in_low in
          let first = get_or-map (λ a. a * 16 % 256) high lane 0 0 (omega (arith, long_high, below)) in
          omega (arith, at, first, is_high, is_low, hex_value-lt x, hex_value-lt y);
    })

-- The number of ones that end a mask is the number of its leading lanes.
pub leading : (mask : ℕ) → mask < 65536 → AreLeading mask (trailing_ones w64 mask)
leading mask small =
    let ones = bit_at-trailing_ones w64 mask (omega (arith, small)) in
    let none : bit_at mask 16 ≡ 0 = omega (arith, small) in
    record { few = grind (arith, ones.2 16); set = ones.2; next = ones.1 }

-- If the right places are picked, as a test of all sixteen finds, each lane has the byte of a text that is wanted in it.
pub picked : (text lanes places : List ℕ) (width : ℕ) (place wanted : ℕ → ℕ)
    → ((k : ℕ) → k < width → get_or lanes k 0 ≡ get_or text (place k) 0) → length places ≡ 16
    → agree_below (λ lane. ltb (get_or places lane 0) width && eqb (place (get_or places lane 0)) (wanted lane)) (λ lane. true) 16 ≡ true
    → (lane : ℕ) → lane < 16 → get_or (pick_l 0 lanes places) lane 0 ≡ get_or text (wanted lane) 0
picked text lanes places width place wanted stands long all lane below =
    let k = get_or places lane 0 in
    let right : ℕ → Bool = λ i. ltb (get_or places i 0) width && eqb (place (get_or places i 0)) (wanted i) in
    let (within, same) = and_parts _ _ (agree_below_at right (λ i. true) 16 lane all below) in
    get_or-map (λ i. get_or lanes i 0) places lane 0 0 (omega (arith, long, below)) ∙ stands k (ltb-true _ _ within)
    ∙ ap (λ i. get_or text i 0) (eqb-true _ _ same)

-- The first `n` bytes of a text stand at their places, whatever follows them.
pub in_front : (n : ℕ) (text more : List ℕ) → n ≤ length text → (k : ℕ) → k < n → get_or (take n text ++ more) k 0 ≡ get_or text k 0
in_front n text more long k below =
    get_or_append_left (take n text) more 0 k (omega (arith, length-take n text, long, below)) ∙ get_or-take n text k 0 below

-- The first 32 bytes of a text and the 32 bytes after them stand at their places.
pub in_64 : (text : List ℕ) → 64 ≤ length text → (k : ℕ) → k < 64
    → get_or (take 32 text ++ take 32 (drop 32 text)) k 0 ≡ get_or text k 0
in_64 text long k below = ap (λ l. get_or l k 0) (sym (take-add 32 32 text)) ∙ get_or-take 64 text k 0 below

-- Where the byte at `k` stands in a text, if the first 32 bytes of the text and the 32 bytes from place 16 on are joined.
abbrev pub place_in_48 : ℕ → ℕ
place_in_48 k = cond (ltb k 32) k (k - 16)

-- Each of the joined bytes stands at this place of the text.
pub in_48 : (text : List ℕ) → 48 ≤ length text → (k : ℕ) → k < 64
    → get_or (take 32 text ++ take 32 (drop 16 text)) k 0 ≡ get_or text (place_in_48 k) 0
in_48 text long k below = go (ltb k 32) refl
  where
    go : (front : Bool) → ltb k 32 ≡ front → get_or (take 32 text ++ take 32 (drop 16 text)) k 0 ≡ get_or text (cond front k (k - 16)) 0
    go true is = in_front 32 text (take 32 (drop 16 text)) (omega (arith, long)) k (ltb-true _ _ is)
    go false is =
        let past : 32 ≤ k = omega (arith, ltb-false _ _ is) in
        let same : 16 + (k - 32) ≡ k - 16 = omega (arith, past) in
        get_or-append_right (take 32 text) (take 32 (drop 16 text)) 32 k 0 (omega (arith, length-take 32 text, long)) past
        ∙ get_or-take 32 (drop 16 text) (k - 32) 0 (omega (arith, past, below)) ∙ get_or-drop 16 text (k - 32) 0
        ∙ ap (λ i. get_or text i 0) same

-- the rule for lanes at the start of a mask
pub ruleset leading_ones = (leading)
