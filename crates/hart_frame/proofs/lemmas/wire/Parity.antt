-- A bit of the exclusive or of bytes is set exactly if it is set in an odd number of them.
use Rattle.hart_frame.proofs.Common.{All-take, take-take, ◌≡◌, ◌≢◌, ℕ, ◌+◌, ◌-◌, ◌%◌, ◌<◌, ◌≤◌, List, [], ◌∷◌, ◌++◌, fold, bit_xor, drop}
use Rattle.hart_frame.proofs.Common.{get_or, length, suc, take, arith, nat_tests, common_steps, get_or-drop, get_or-take}
use Rattle.hart_frame.proofs.Common.{get_or_append_left, get_or_at, bit_at, get_or_past, length-take, length-take-le, take_all, take_more}
use Rattle.hart_frame.proofs.Common.{All, IsCheckByte, HasEvenParity, All-get_or}
use Rattle.std.proofs.lemmas.List.Sums.{fold-append, sum_by_push}
use Rattle.std.proofs.lemmas.Nat.{xor_of_8}
use Rattle.std.proofs.lemmas.Nat.Bits.{bit_at_xor, bit_at-lt, bit_at-zero, same_from_bits_below}
use Rattle.std.specs.Int.Bits.{xor_assoc, xor_self, xor_zero_r}
use Rattle.hart_frame.specs.wire.Parity.{bit_count}

-- Each element of a list of bytes is below 256, and so is the 0 that is read past its end.
pub fits_at : (bytes : List ℕ) → All (λ byte. byte < 256) bytes → (i : ℕ) → get_or bytes i 0 < 256
fits_at bytes fit i = grind (arith, All-get_or, get_or_past)

-- If the first `len` elements of a list are bytes, so are those before the last of them.
pub fit_before : (xs : List ℕ) (len : ℕ) → All (λ byte. byte < 256) (take len xs) → All (λ byte. byte < 256) (take (len - 1) xs)
fit_before xs len fit = rw (take-take (len - 1) len xs (omega arith)) at (All-take (λ byte. byte < 256) (len - 1) (take len xs) fit)

pub fits_drop : (bytes : List ℕ) (n : ℕ) → ((i : ℕ) → get_or bytes i 0 < 256) → (i : ℕ) → get_or (drop n bytes) i 0 < 256
fits_drop bytes n fits i = grind (arith, get_or-drop, fits (n + i))

pub fits_take : (bytes : List ℕ) (n : ℕ) → ((i : ℕ) → get_or bytes i 0 < 256) → (i : ℕ) → get_or (take n bytes) i 0 < 256
fits_take bytes n fits i = grind (arith, get_or-take, get_or_past, length-take, fits i)

-- An appended byte adds its bit to the bit count of the bytes before it.
bit_count-push : (bit byte : ℕ) (bytes : List ℕ) → bit_count bit (bytes ++ byte ∷ []) ≡ bit_count bit bytes + bit_at byte bit
bit_count-push bit byte bytes = grind (arith, sum_by_push, nat_tests, bit_at-lt)

-- A bit of an exclusive or is the parity of the bit count, with the start counted too.
xor_parity : (bytes : List ℕ) (start bit : ℕ) → bit_at (fold bit_xor start bytes) bit ≡ (bit_at start bit + bit_count bit bytes) % 2
xor_parity [] start bit = omega (arith, bit_at-lt start bit)
xor_parity (byte ∷ bytes) start bit = grind (arith, common_steps, xor_parity bytes (bit_xor start byte) bit, bit_at_xor, bit_at-lt byte bit)

-- The exclusive or of bytes is below 256.
xor_fits : (bytes : List ℕ) (start : ℕ) → start < 256 → ((i : ℕ) → get_or bytes i 0 < 256) → fold bit_xor start bytes < 256
xor_fits [] start first each = first
xor_fits (byte ∷ bytes) start first each =
    grind (arith, xor_fits bytes (bit_xor start byte), xor_of_8 start byte, each 0, λ (i : ℕ). each (suc i))

pub IsCheckByte-fold : (bytes : List ℕ) (check : ℕ) → ((i : ℕ) → get_or bytes i 0 < 256) → check ≡ fold bit_xor 0 bytes
    → IsCheckByte bytes check
IsCheckByte-fold bytes check each e = grind (arith, xor_fits, xor_parity, bit_at-zero)

-- Bytes and their check byte together have even parity.
pub HasEvenParity-push : (bytes : List ℕ) (check : ℕ) → IsCheckByte bytes check → HasEvenParity (bytes ++ check ∷ [])
HasEvenParity-push bytes check is = record { even = λ bit below. omega (arith, bit_count-push bit check bytes, is.odd bit below) }

-- The check byte of bytes with even parity is 0.
pub check-even : (bytes : List ℕ) (check : ℕ) → IsCheckByte bytes check → HasEvenParity bytes → check ≡ 0
check-even bytes check is even = grind (arith, same_from_bits_below, bit_at-zero)

-- Bytes whose check byte is 0 have even parity.
pub even-check : (bytes : List ℕ) → IsCheckByte bytes 0 → HasEvenParity bytes
even-check bytes is = grind (arith, bit_at-zero)

-- If bytes have even parity, the last one is the exclusive or of those before it.
pub even-is : (bytes : List ℕ) (check : ℕ) → ((i : ℕ) → get_or bytes i 0 < 256) → check < 256 → HasEvenParity (bytes ++ check ∷ [])
    → check ≡ fold bit_xor 0 bytes
even-is bytes check each small even =
    same_from_bits_below 8 check (fold bit_xor 0 bytes) small (xor_fits bytes 0 (omega arith) each)
    (λ bit below. grind (arith, bit_count-push, xor_parity, bit_at-zero, bit_at-lt check bit, even.even bit below))

-- The check byte of bytes is their exclusive or.
pub fits-is : (bytes : List ℕ) (fits : ℕ) → All (λ byte. byte < 256) bytes → IsCheckByte bytes fits → fits ≡ fold bit_xor 0 bytes
fits-is bytes fits fit is = even-is bytes fits (fits_at bytes fit) is.byte (HasEvenParity-push bytes fits is)

-- The exclusive or of all bytes, and once more of the last byte, is the exclusive or of the bytes before the last one.
pub before_last : (bytes : List ℕ) (n : ℕ) → n + 1 ≡ length bytes
    → bit_xor (fold bit_xor 0 bytes) (get_or bytes n 0) ≡ fold bit_xor 0 (take n bytes)
before_last bytes n all = grind (arith, take_all, take_more bytes n 0, fold-append, xor_assoc, xor_self, xor_zero_r)

-- An exclusive or with a number other than 0 changes a number.
pub changed : (c a : ℕ) → c ≢ 0 → a ≢ bit_xor c a
changed c a some same = grind (arith, xor_assoc c a a, xor_self a, xor_zero_r c)

-- If the last byte is not the exclusive or of those before it, the parity is not even.
pub odd : (bytes : List ℕ) (len : ℕ) → All (λ byte. byte < 256) (take len bytes) → 0 < len → len ≤ length bytes
    → get_or bytes (len - 1) 0 ≢ fold bit_xor 0 (take (len - 1) bytes) → HasEvenParity (take len bytes) → ⊥
odd bytes len fit some within differ even =
    let n = len - 1 in
    let whole : take len bytes ≡ take n bytes ++ get_or bytes n 0 ∷ [] = grind (arith, common_steps, take_more) in
    let each = fits_at (take len bytes) fit in
    grind (arith, even-is (take n bytes) (get_or bytes n 0), get_or_append_left, get_or_past, get_or_at, length-take-le)
