-- Received characters (HCF_SPEC-081).
use Rattle.std.specs.Prelude.{◌≡◌, ◌==◌, ℕ, ◌<◌, ◌⊎◌, List, map, take_while}
use Rattle.std.specs.Int.{bit_at}

-- A received character is a byte and the fault bits that the receiver noticed.
pub record Character : Type 0 where
  pub byte : ℕ
  pub faults : ℕ

-- Bit 6 stands for vertical parity, bit 5 for overrun, bit 4 for framing and bit 1 for buffer overflow.
abbrev pub IsFaultBit : ℕ → Type 0
IsFaultBit bit = (bit ≡ 6) ⊎ (bit ≡ 5) ⊎ (bit ≡ 4) ⊎ (bit ≡ 1)

-- Fault bits are a byte in which only the bits 6, 5, 4 and 1 may be set.
pub record AreFaultBits (faults : ℕ) : Type 0 where
  pub byte : faults < 256
  pub only : (bit : ℕ) → bit < 8 → bit_at faults bit ≡ 1 → IsFaultBit bit

-- Bytes as characters that were received without faults.
abbrev pub faultless : List ℕ → List Character
faultless bytes = map (λ byte. record { byte = byte; faults = 0 }) bytes

-- The bytes of the characters before the first character with fault bits, or of all characters if no character has fault bits.
abbrev pub faultless_bytes : List Character → List ℕ
faultless_bytes chars = map (λ character. character.byte) (take_while (λ character. character.faults == 0) chars)
