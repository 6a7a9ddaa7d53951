-- The words of a line whose blanks are marked.
use Rattle.hart_text.specs.Lines.{AreMarks, HasBlanks, has_bytes, is_blank, lines_of, words_of}
use Rattle.std.proofs.Common.{Bool, Fits, List, None, Option, Some, [], add-zero, ap, arith, cond, drop, false, get_or, if◌then◌else◌}
use Rattle.std.proofs.Common.{length, length-drop, map, min, refl, slice_index, suc, sym, take, true, unwrap_or, w64, w8, zero, ℕ, ◌%◌}
use Rattle.std.proofs.Common.{◌+◌, ◌-◌, ◌/◌, ◌<◌, ◌==◌, ◌^◌, ◌∙◌, ◌∷◌, ◌≡◌, ◌≤◌}
use Rattle.std.proofs.Math.Nat.{div-div-eq-div-mul, div-le_self}
use Rattle.std.proofs.lemmas.Bool.{agree_below, agree_below_at, false_from_ne_true}
use Rattle.std.proofs.lemmas.Grind.{common_steps}
use Rattle.std.proofs.lemmas.List.{drop_all, get_or-drop, get_or-map, get_or-take, length-map, length-take}
use Rattle.std.proofs.lemmas.List.Splits.{slice_split-cons_yes, slice_split_first}
use Rattle.std.proofs.lemmas.List.Sums.{position_or_len_is}
use Rattle.std.proofs.lemmas.Nat.{pow-add}
use Rattle.std.proofs.lemmas.Nat.Bits.{bit_at-lt, bit_at-trailing_zeros, bit_at-zero, bit_at_not}
use Rattle.std.proofs.lemmas.Simd.{Each1-get_or, bit_mask_l, map-map, mask_l-mod}
use Rattle.std.specs.Int.{bit_at, bit_not, trailing_ones, trailing_zeros}
use Rattle.std.specs.Int.Count.{trailing_of_zero}
use Rattle.std.specs.List.{filter, onto_first, position_or_len, slice_split}
use Rattle.std.specs.Str.Lines.{strip_carriage_return}
use Rattle.memchr.specs.Find.{IsFirstByte}
use lib.Lanes.{Each1, mask_l, top}

-- LANES
-- If a test agrees with the highest bit of a lane at each byte, a mask of the lanes says which bytes pass the test.
pub lanes_mark : (f : ℕ → ℕ) (passes : ℕ → Bool) (bytes lanes : List ℕ) → (length bytes ≡ 64) × Each1 (Fits w8) bytes
    → lanes ≡ map f bytes → agree_below (λ x. top 7 (f x)) passes 256 ≡ true → AreMarks passes (mask_l (map (top 7) lanes) % 2 ^ 64) bytes
lanes_mark f passes bytes lanes (long, fit) is all k below =
    let highest : ℕ → Bool = λ x. top 7 (f x) in
    let same : mask_l (map (top 7) lanes) % 2 ^ 64 ≡ mask_l (map highest bytes) =
    ap (λ l. mask_l l % 2 ^ 64) (ap (map (top 7)) is ∙ map-map (top 7) f bytes)
    ∙ mask_l-mod (map highest bytes) 64 (omega (arith, length-map bytes highest, long)) in
    let agrees = agree_below_at highest passes 256 (get_or bytes k 0) all (Each1-get_or (Fits w8) bytes k 0 below fit).fits in
    ap (λ m. bit_at m k) same ∙ bit_mask_l (map highest bytes) k
    ∙ ap (λ b. cond b 1 0) (get_or-map highest bytes k 0 false below ∙ agrees)

-- MARKS
from_bit : (passes : Bool) (bit : ℕ) → bit ≡ (if passes then 1 else 0) → (bit ≡ 0 → passes ≡ false) × (bit ≡ 1 → passes ≡ true)
from_bit true bit is = ((λ no. absurd (omega (arith, is, no))), (λ yes. refl))
from_bit false bit is = ((λ no. refl), (λ yes. absurd (omega (arith, is, yes))))

-- The bits below the lowest set bit of a number are not set.
lowest_one : (n : ℕ) → n < 2 ^ 64 → ((i : ℕ) → i < trailing_zeros w64 n → bit_at n i ≡ 0)
    × (trailing_zeros w64 n < 64 → bit_at n (trailing_zeros w64 n) ≡ 1)
lowest_one zero small = ((λ i below. bit_at-zero i), (λ short. absurd (omega (arith, trailing_of_zero 64, short))))
lowest_one (suc n) small = let is = bit_at-trailing_zeros w64 (suc n) (omega arith) small in (is.2, (λ short. is.1))

-- The lowest mark stands at the first byte that passes.
pub place_of_mark : (passes : ℕ → Bool) (mask : ℕ) (bytes : List ℕ) → mask < 2 ^ 64 → length bytes ≤ 64 → AreMarks passes mask bytes
    → position_or_len passes bytes ≡ min (length bytes) (trailing_zeros w64 mask)
place_of_mark passes mask bytes small few marks =
    let one = lowest_one mask small in
    position_or_len_is passes bytes (min (length bytes) (trailing_zeros w64 mask)) 0 (omega arith)
    (λ k below. (from_bit (passes (get_or bytes k 0)) _ (marks k (omega (arith, below)))).0 (one.0 k (omega (arith, below))))
    (λ short. let at : min (length bytes) (trailing_zeros w64 mask) ≡ trailing_zeros w64 mask = omega (arith, short) in
    (from_bit _ _ (marks _ short)).1 (ap (bit_at mask) at ∙ one.1 (omega (arith, short, few))))

-- After a shift, the marks are those of the bytes that are left.
pub shifted : (passes : ℕ → Bool) (mask n : ℕ) (bytes : List ℕ) → n ≤ length bytes → AreMarks passes mask bytes
    → AreMarks passes (mask / 2 ^ n) (drop n bytes)
shifted passes mask n bytes within marks k below =
    let same : mask / 2 ^ n / 2 ^ k ≡ mask / 2 ^ (n + k) =
    div-div-eq-div-mul mask (2 ^ n) (2 ^ k) ∙ ap (λ d. mask / d) (sym (pow-add 2 n k)) in
    ap (λ m. m % 2) same ∙ marks (n + k) (omega (arith, length-drop n bytes, below))
    ∙ ap (λ x. if passes x then 1 else 0) (sym (get_or-drop n bytes k 0))

-- The marks of a list are also the marks of its first `n` bytes.
fewer : (passes : ℕ → Bool) (mask n : ℕ) (bytes : List ℕ) → AreMarks passes mask bytes → AreMarks passes mask (take n bytes)
fewer passes mask n bytes marks k below =
    marks k (omega (arith, length-take n bytes, below))
    ∙ ap (λ x. if passes x then 1 else 0) (sym (get_or-take n bytes k 0 (omega (arith, length-take n bytes, below))))

-- LINES
-- The part before the first line feed is the first line, and the text after the line feed has the other lines.
pub cut_at : (text : List ℕ) (len : ℕ) → position_or_len (λ byte. byte == 10) text ≡ len → len < length text
    → lines_of text ≡ strip_carriage_return (take len text) ∷ lines_of (drop (len + 1) text)
cut_at text len is short =
    rw (← is) (ap (map strip_carriage_return) (slice_split_first (λ byte. byte == 10) text 0 (omega (arith, is, short))))

-- The lowest mark of the first 64 bytes of a text stands at its first line feed.
pub first_feed : (mask : ℕ) (text : List ℕ) → 64 ≤ length text → mask < 2 ^ 64 → 0 < mask
    → AreMarks (λ byte. byte == 10) mask (take 64 text)
    → (position_or_len (λ byte. byte == 10) text ≡ trailing_zeros w64 mask) × (trailing_zeros w64 mask < 64)
first_feed mask text long small some marks =
    let one = bit_at-trailing_zeros w64 mask some small in
    let bit = λ (k : ℕ) (below : k < 64). marks k (omega (arith, length-take 64 text, long, below))
    ∙ ap (λ x. if x == 10 then 1 else 0) (get_or-take 64 text k 0 below) in (
      position_or_len_is (λ byte. byte == 10) text (trailing_zeros w64 mask) 0 (omega (arith, one.0, long))
          (λ k below. (from_bit _ _ (bit k (omega (arith, below, one.0)))).0 (one.2 k below))
          (λ short. (from_bit _ _ (bit (trailing_zeros w64 mask) one.0)).1 one.1),
      one.0,
    )

-- A line without its carriage return has its blanks where it had them.
stripped : (mask : ℕ) (part : List ℕ) → HasBlanks mask part → HasBlanks mask (strip_carriage_return part)
stripped mask part (short, marks) = by (slice_index part (length part - 1) == 13)
  where
    by : (returns : Bool) → HasBlanks mask (if returns then take (length part - 1) part else part)
    by true = (omega (arith, length-take (length part - 1) part, short), fewer is_blank mask (length part - 1) part marks)
    by false = (short, marks)

-- A line in front of a text has its blanks where the text has them.
pub blanks_of_line : (mask len : ℕ) (text : List ℕ) → len < 64 → AreMarks is_blank mask (take 64 text)
    → HasBlanks mask (strip_carriage_return (take len text))
blanks_of_line mask len text short marks =
    let few = length-take len text in
    stripped mask (take len text) (
      omega (arith, few, short),
      λ k below.
          let within : k < 64 = omega (arith, few, below, short) in marks k (omega (arith, few, length-take 64 text, below, short))
          ∙ ap (λ x. if is_blank x then 1 else 0)
          (get_or-take 64 text k 0 within ∙ sym (get_or-take len text k 0 (omega (arith, few, below)))),
    )

-- WORDS
-- Blanks before a word are skipped.
pub skipped : (line : List ℕ) (n : ℕ) → ((k : ℕ) → k < n → k < length line → is_blank (get_or line k 0) ≡ true)
    → words_of (drop n line) ≡ words_of line
skipped line zero blanks = refl
skipped [] (suc n) blanks = refl
skipped (x ∷ xs) (suc n) blanks =
    let first : is_blank x ≡ true = blanks 0 (omega arith) (omega arith) in
    skipped xs n (λ k below within. blanks (suc k) (omega (arith, below)) (omega (arith, within)))
    ∙ sym (ap (filter has_bytes) (slice_split-cons_yes is_blank x xs first))

-- The first part is what comes before the first element for which `p` is true, and the other parts come after this element.
first_part : (p : ℕ → Bool) (xs : List ℕ) → (slice_split p xs ≡ take (position_or_len p xs) xs ∷ drop 1 (slice_split p xs))
    × (filter has_bytes (drop 1 (slice_split p xs)) ≡ filter has_bytes (slice_split p (drop (position_or_len p xs) xs)))
first_part p [] = (refl, refl)
first_part p (x ∷ xs) =
    let before = first_part p xs in let more : 1 + position_or_len p xs ≡ suc (position_or_len p xs) = omega arith in
    grind (arith, common_steps, onto_first)

-- A line that does not begin with a blank begins with a word.
pub first_word : (line : List ℕ) (len : ℕ) → 0 < length line → is_blank (get_or line 0 0) ≡ false → position_or_len is_blank line ≡ len
    → words_of line ≡ take len line ∷ words_of (drop len line)
first_word line len some word is = let part = first_part is_blank line in grind (arith, common_steps, slice_split)

-- The lowest bit that is not set stands at the first byte that is no blank.
pub start_of_word : (mask : ℕ) (line : List ℕ) → mask < 2 ^ 64 → HasBlanks mask line
    → ((k : ℕ) → k < trailing_ones w64 mask → k < length line → is_blank (get_or line k 0) ≡ true)
    × (trailing_ones w64 mask < length line → is_blank (get_or line (trailing_ones w64 mask) 0) ≡ false)
start_of_word mask line small (few, marks) =
    let one = lowest_one (bit_not w64 mask) (omega (arith, small)) in
    let start = trailing_ones w64 mask in (
      λ k below within. (from_bit _ _ (marks k within)).1
          (omega (arith, bit_at_not w64 mask k small (omega (arith, within, few)), one.0 k below, bit_at-lt mask k)),
      λ short. (from_bit _ _ (marks start short)).0
          (let below : start < 64 = omega (arith, short, few) in
          omega (arith, bit_at_not w64 mask start small below, one.1 below, bit_at-lt mask start)),
    )

-- A line whose bytes are all marked as blanks has no word.
pub no_word : (mask : ℕ) (line : List ℕ) → mask < 2 ^ 64 → HasBlanks mask line → length line ≤ trailing_ones w64 mask → words_of line ≡ []
no_word mask line small marks all =
    let start = start_of_word mask line small marks in
    sym (skipped line (length line) (λ k below within. start.0 k (omega (arith, all, below)) within))
    ∙ ap words_of (drop_all (length line) line (omega arith))

-- The marks say where the first word begins and ends.
pub marked_word : (mask start len : ℕ) (line : List ℕ) → mask < 2 ^ 64 → HasBlanks mask line → start ≡ trailing_ones w64 mask
    → start < length line → len ≡ min (length (drop start line)) (trailing_zeros w64 (mask / 2 ^ start))
    → (words_of line ≡ take len (drop start line) ∷ words_of (drop len (drop start line)))
    × HasBlanks (mask / 2 ^ start / 2 ^ len) (drop len (drop start line))
marked_word mask start len line small marks starts short ends =
    let word = start_of_word mask line small marks in
    let rest = drop start line in
    let shorter : length rest ≡ length line - start = length-drop start line in
    let left = shifted is_blank mask start line (omega (arith, short)) marks.1 in
    let place = place_of_mark is_blank (mask / 2 ^ start) rest (omega (arith, small, div-le_self mask (2 ^ start)))
    (omega (arith, shorter, marks.0)) left in
    let first : is_blank (get_or rest 0 0) ≡ false = rw (get_or-drop, add-zero, starts) (word.1 (omega (arith, starts, short))) in
    let within : len ≤ length rest = omega (arith, ends) in (
      sym (skipped line start (λ k below within. word.0 k (omega (arith, below, starts)) within))
          ∙ first_word rest len (omega (arith, shorter, short)) first (place ∙ sym ends),
      (omega (arith, length-drop len rest, shorter, marks.0), shifted is_blank (mask / 2 ^ start) len rest within left),
    )

-- What `memchr` finds is the first place that passes.
pub found_is : (passes : ℕ → Bool) (bytes : List ℕ) (found : Option ℕ) → IsFirstByte passes bytes found
    → unwrap_or found (length bytes) ≡ position_or_len passes bytes
found_is passes bytes (Some k) (first, here) = sym (position_or_len_is passes bytes k 0 (omega (arith, first.high))
    (λ i below. false_from_ne_true _ (first.before i (omega arith) below)) (λ short. here))
found_is passes bytes None none = sym (position_or_len_is passes bytes (length bytes) 0 (omega arith)
    (λ i below. false_from_ne_true _ (none i (omega arith) below)) (λ short. absurd (omega (arith, short))))

-- the rule for a place that is searched for
pub ruleset place_found = (found_is)

-- the rules for the first word of a line
pub ruleset word_first = (common_steps, first_word)
