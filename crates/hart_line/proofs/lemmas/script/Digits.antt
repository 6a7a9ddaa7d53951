-- Hex digits whose values are found in a table.
use Rattle.hart_line.proofs.Common.{◌≡◌, ℕ, ◌+◌, ◌*◌, ◌<◌, List, [], ◌∷◌, Option, Some, None, Result, Ok, IsTrue, is_some, unwrap_or, arith}
use Rattle.hart_line.proofs.Common.{cases_eq, common_steps, get_or, get_or-set_at, get_or-set_other, inl, inr, length, mul_comm, slice_set}
use Rattle.hex.specs.declared.error.FromHexError.{FromHexError}
use Rattle.hex.specs.Hex.{decode_pairs, digit_or_error, hex_digit_value, ◌>>=◌}
use Rattle.hart_text.specs.Digits.{AreDigitsOf}

-- what `hex` reads from two bytes that have these values as digits, and from the bytes after them
pair_read : (high low i : ℕ) (a b : Option ℕ) (rest : Result (List ℕ) FromHexError) (bytes : List ℕ)
    → IsTrue (is_some a) × IsTrue (is_some b) → rest ≡ Ok bytes
    → ((digit_or_error high i a >>= (λ h. digit_or_error low (i + 1) b >>= (λ l. Ok (h * 16 + l))))
    >>= (λ byte. rest >>= (λ more. Ok (byte ∷ more)))) ≡ Ok ((16 * unwrap_or a 0 + unwrap_or b 0) ∷ bytes)
pair_read high low i (Some a) (Some b) rest bytes are is = grind (arith, mul_comm)
pair_read high low i None b rest bytes are is = grind arith
pair_read high low i (Some a) None rest bytes are is = grind arith

-- two digits write one more byte
pub one_more : (i high low byte : ℕ) (rest bytes : List ℕ) → AreDigitsOf byte high low → decode_pairs (i + 2) rest ≡ Ok bytes
    → decode_pairs i (high ∷ low ∷ rest) ≡ Ok (byte ∷ bytes)
unfolding decode_pairs
one_more i high low byte rest bytes (are, is) more =
    rw is (pair_read high low i (hex_digit_value high) (hex_digit_value low) (decode_pairs (i + 2) rest) bytes are more)

pub none_left : (i : ℕ) → decode_pairs i [] ≡ Ok []
unfolding decode_pairs
none_left i = grind arith

-- what stands one place later in a list with one more byte at its head
next_place : (byte : ℕ) (rest : List ℕ) (k : ℕ) → get_or (byte ∷ rest) (k + 1) 0 ≡ get_or rest k 0
next_place byte rest k = grind (arith, common_steps)

-- what stands two places later in a list with two more bytes at its head
later : (high low : ℕ) (rest : List ℕ) (j k : ℕ) → j ≡ k + 2 → get_or (high ∷ low ∷ rest) j 0 ≡ get_or rest k 0
later high low rest j k is = grind (arith, common_steps)

-- a word decodes to bytes of which each is the one that its two digits write
pub digits_decode : (i : ℕ) (word bytes : List ℕ) → length word ≡ 2 * length bytes
    → ((k : ℕ) → k < length bytes → AreDigitsOf (get_or bytes k 0) (get_or word (2 * k) 0) (get_or word (2 * k + 1) 0))
    → decode_pairs i word ≡ Ok bytes
digits_decode i [] [] len are = none_left i
digits_decode i (high ∷ low ∷ rest) (byte ∷ bytes) len are =
    one_more i high low byte rest bytes (are 0 (grind arith)) (digits_decode (i + 2) rest bytes (grind arith) (λ k below.
    let next = are (k + 1) (grind arith) in
    let first = later high low rest (2 * (k + 1)) (2 * k) (grind arith) in
    let second = later high low rest (2 * (k + 1) + 1) (2 * k + 1) (grind arith) in
    rw (next_place byte bytes k, first, second) at next))
digits_decode i word bytes len are = absurd (grind arith)

-- one more byte is the one that its two digits write
pub one_more_written : (values word : List ℕ) (place byte k : ℕ) → place < length values
    → (k < place → AreDigitsOf (get_or values k 0) (get_or word (2 * k) 0) (get_or word (2 * k + 1) 0))
    → AreDigitsOf byte (get_or word (2 * place) 0) (get_or word (2 * place + 1) 0) → k < place + 1
    → AreDigitsOf (get_or (slice_set values place byte) k 0) (get_or word (2 * k) 0) (get_or word (2 * k + 1) 0)
one_more_written values word place byte k within before digits below =
    elim (cases_eq k place) [
      | inl same ↦ rw (get_or-set_at values place k byte 0 same within, same) digits
      | inr other ↦ rw (get_or-set_other values place k byte 0 other) (before (grind arith))
    ]
