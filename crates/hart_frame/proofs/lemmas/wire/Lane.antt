-- Taking the exclusive or (XOR) in each lane and then over all lanes gives the XOR of all bytes.
use Rattle.hart_frame.proofs.Common.{◌≡◌, ℕ, zero, suc, ◌+◌, ◌*◌, ◌-◌, ◌/◌, ◌<◌, ◌≤◌, List, [], ◌∷◌, ◌++◌, refl, sym, ap, ◌∙◌, arith, fold}
use Rattle.hart_frame.proofs.Common.{bit_xor, take, drop, length, get_or, ltb, replicate, take-add, take-append-drop, nat_tests, drop-drop}
use Rattle.hart_frame.proofs.Common.{common_steps, length-append, length-replicate, length-take-le, take-take, range_with_len, IsCheckByte}
use Rattle.std.proofs.lemmas.List.{drop-take}
use Rattle.std.proofs.lemmas.List.Sums.{fold-append}
use Rattle.std.proofs.lemmas.Nat.{xor_comm}
use Rattle.std.proofs.lemmas.Simd.{length-chunk}
use Rattle.std.specs.Int.Bits.{xor_assoc, xor_zero_r}
use Rattle.std.specs.List.{slice_index_or}
use Rattle.std.specs.Simd.{first_chunks}
use Rattle.std.specs.Simd.Lanes.{zip2, fold_l, sel_l}
use Rattle.hart_frame.proofs.lemmas.wire.Parity.{IsCheckByte-fold, fits_take}

-- The exclusive or of bytes.
abbrev pub xor_of : List ℕ → ℕ
xor_of bytes = fold bit_xor 0 bytes

-- The XOR of bytes is the same whether a byte comes first or last.
fold_moved : (start byte : ℕ) (bytes : List ℕ) → fold bit_xor (bit_xor start byte) bytes ≡ bit_xor (fold bit_xor start bytes) byte
fold_moved start byte [] = refl
fold_moved start byte (first ∷ bytes) = grind (arith, common_steps, bit_xor, xor_comm, fold_moved (bit_xor start first) byte bytes)

-- If two equally long lists are combined element by element, the XOR of the result is the XOR of both lists, one after the other.
fold-zip2 : (start : ℕ) (xs ys : List ℕ) → length xs ≡ length ys
    → fold bit_xor start (zip2 bit_xor xs ys) ≡ fold bit_xor (fold bit_xor start xs) ys
fold-zip2 start [] [] same = refl
fold-zip2 start (x ∷ xs) (y ∷ ys) same =
    grind (arith, common_steps, bit_xor, xor_comm, fold_moved (bit_xor start x) y xs, fold-zip2 (bit_xor start (bit_xor x y)) xs ys)
fold-zip2 start xs ys same = absurd (omega arith)

-- The chunk at an index consists of the `n` elements from `n * index` on.
first_chunks-at : {X : Type 0} (n count index : ℕ) (xs : List X) → index < count
    → slice_index_or (first_chunks n count xs) index [] ≡ take n (drop (n * index) xs)
first_chunks-at n (suc count) zero xs below = grind arith
first_chunks-at n (suc count) (suc index) xs below = grind (arith, drop-drop, first_chunks-at n count index (drop n xs))
first_chunks-at n count index xs below = absurd (omega arith)

-- After one more block, the lanes have the exclusive or of the bytes up to the end of this block.
pub xor_of-block : (width index : ℕ) (bytes lanes : List ℕ) (chunks : List (List ℕ))
    → chunks ≡ first_chunks width (length bytes / width) bytes → index < length bytes / width → width * index + width ≤ length bytes
    → length lanes ≡ width → xor_of lanes ≡ xor_of (take (width * index) bytes)
    → xor_of (zip2 bit_xor lanes (slice_index_or chunks index [])) ≡ xor_of (take (width * (index + 1)) bytes)
xor_of-block width index bytes lanes chunks is below within full before =
    grind (arith, first_chunks-at, length-chunk, fold-zip2, fold-append, take-add)

-- An exclusive or that begins with a number is that number and the exclusive or of the bytes.
fold_from : (start : ℕ) (bytes : List ℕ) → fold bit_xor start bytes ≡ bit_xor start (fold bit_xor 0 bytes)
fold_from start [] = sym (xor_zero_r start)
fold_from start (byte ∷ bytes) =
    grind (arith, common_steps, bit_xor, xor_comm, fold_moved start byte bytes, fold_moved 0 byte bytes, fold_from start bytes, xor_assoc)

-- If lanes have the exclusive or of the first `n` bytes, then that of a number, the lanes and the other bytes is that of the number and all
-- bytes.
pub fold-rest : (start n : ℕ) (bytes lanes rest : List ℕ) → xor_of lanes ≡ xor_of (take n bytes) → rest ≡ drop n bytes
    → fold bit_xor (bit_xor start (fold_l bit_xor 0 lanes)) rest ≡ fold bit_xor start bytes
fold-rest start n bytes lanes rest same is =
    grind (arith, fold_from, take-append-drop n bytes, fold-append bit_xor start (take n bytes) (drop n bytes))

-- The check byte of all bytes is found in two steps: the exclusive or of the bytes before a place, and then that of this number and the
-- bytes from the place on.
pub checked_rest : (n start : ℕ) (bytes : List ℕ) → start ≡ fold bit_xor 0 (take n bytes) → ((i : ℕ) → get_or bytes i 0 < 256)
    → IsCheckByte bytes (fold bit_xor start (drop n bytes))
checked_rest n start bytes before each =
    grind (arith, IsCheckByte-fold, take-append-drop n bytes, fold-append bit_xor 0 (take n bytes) (drop n bytes))

-- If the first place is not below a limit, no lane is kept: all become 0.
none_kept : (from limit n : ℕ) (xs : List ℕ) → length xs ≡ n → limit ≤ from
    → sel_l (zip2 ltb (range_with_len from n) (replicate n limit)) xs (replicate n 0) ≡ replicate n 0
none_kept from limit zero [] same order = refl
none_kept from limit (suc n) (x ∷ xs) same order = grind (arith, nat_tests, none_kept (from + 1) limit n xs)
none_kept from limit n xs same order = absurd (omega arith)

-- The lanes whose places are below a limit are kept, and the others become 0.
pub kept : (from count limit n : ℕ) (xs : List ℕ) → length xs ≡ n → count ≤ n → limit ≡ from + count
    → sel_l (zip2 ltb (range_with_len from n) (replicate n limit)) xs (replicate n 0) ≡ take count xs ++ replicate (n - count) 0
kept from zero limit n xs same few is = grind (arith, none_kept from limit n xs same)
kept from (suc count) limit (suc n) (x ∷ xs) same few is = grind (arith, nat_tests, kept (from + 1) count limit n xs)
kept from (suc count) limit n xs same few is = absurd (omega arith)

-- Zeros do not change an exclusive or.
fold-zeros : (start n : ℕ) → fold bit_xor start (replicate n 0) ≡ start
fold-zeros start zero = refl
fold-zeros start (suc n) = ap (λ (s : ℕ). fold bit_xor s (replicate n 0)) (xor_zero_r start) ∙ fold-zeros start n

-- The exclusive or of lanes and of bytes with zeros after them is that of the lanes and of the bytes.
fold-front : (lanes front bytes : List ℕ) (n : ℕ) → length lanes ≡ length front → front ≡ bytes ++ replicate n 0
    → fold_l bit_xor 0 (zip2 bit_xor lanes front) ≡ fold bit_xor (fold_l bit_xor 0 lanes) bytes
fold-front lanes front bytes n same is = grind (arith, common_steps, fold-zip2, fold-append, fold-zeros)

-- The first `m` elements of a list are its first `n` and then the `m - n` after them.
pub take_more : (xs : List ℕ) (n m : ℕ) → n ≤ m → take m xs ≡ take n xs ++ take (m - n) (drop n xs)
take_more xs n m order = ap (λ (k : ℕ). take k xs) (let e : m ≡ n + (m - n) = omega (arith, order) in e) ∙ take-add n (m - n) xs

-- Dropping `n` of the first `m` elements of a list leaves the first `m - n` elements from place `n` on.
pub drop_take : (xs : List ℕ) (n m : ℕ) → n ≤ m → drop n (take m xs) ≡ take (m - n) (drop n xs)
drop_take xs n m order = grind (arith, drop-take n (m - n) xs)

-- The lanes have the exclusive or of the first `whole` of the first `len` bytes of a list.
module _ (len whole : ℕ) (bytes lanes : List ℕ) (order : whole ≤ len) (each : (i : ℕ) → get_or bytes i 0 < 256)
    (before : xor_of lanes ≡ xor_of (take whole (take len bytes))) where
  -- The exclusive or of the lanes and of the bytes from `whole` up to `len` is the check byte of the first `len` bytes.
  pub IsCheckByte-few : (check : ℕ) → check ≡ fold bit_xor (fold_l bit_xor 0 lanes) (take (len - whole) (drop whole bytes))
      → IsCheckByte (take len bytes) check
  IsCheckByte-few check folded = grind (arith, checked_rest whole (xor_of lanes) (take len bytes), fits_take, drop_take)

  -- The exclusive or of the lanes and of a block, which has the bytes from `whole` up to `len` and then zeros, is that check byte too.
  pub IsCheckByte-front : (front block : List ℕ) → len ≤ whole + 16 → block ≡ take 16 (drop whole bytes) → length block ≡ 16
      → length lanes ≡ 16 → front ≡ take (len - whole) block ++ replicate (16 - (len - whole)) 0
      → IsCheckByte (take len bytes) (fold_l bit_xor 0 (zip2 bit_xor lanes front))
  IsCheckByte-front front block few is full wide parts =
      let n = len - whole in
      let same : take n block ≡ take n (drop whole bytes) = grind (arith, take-take n 16 (drop whole bytes)) in
      IsCheckByte-few _
      (grind (arith, fold-front lanes front (take n block) (16 - n), length-append, length-take-le n block, length-replicate))
