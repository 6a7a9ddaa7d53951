-- What a table of hex digits holds (implementation choice).
use Rattle.std.specs.Prelude.{◌≡◌, ◌<◌, ℕ, List, get_or, if◌then◌else◌, ◌≤◌, ◌↔◌, length, IsTrue}
use Rattle.hex.specs.Hex.{is_hex_digit}
use Rattle.hart_text.specs.Item.{AreDigits, byte_of, hex_value}
use Rattle.std.specs.Int.{bit_at}
use Rattle.hart_text.specs.Items.{IsSeparator}

-- The value of a byte as a hex digit: below 16, or 255 if the byte is no hex digit.
abbrev pub value_of_digit : ℕ → ℕ
value_of_digit byte = if is_hex_digit byte then hex_value byte else 255

-- At each index `byte` below `count`, the list `values` has the value of this byte as a hex digit.
abbrev pub AreDigitValues : ℕ → List ℕ → Type 0
AreDigitValues count values = (byte : ℕ) → byte < count → get_or values byte 0 ≡ value_of_digit byte

-- Two bytes are hex digits, and the two digits denote this byte.
abbrev pub AreDigitsOf : ℕ → ℕ → ℕ → Type 0
AreDigitsOf byte high low = AreDigits high low × (byte ≡ byte_of high low)

-- Only private calls use the definitions from here on. They describe sixteen lanes of a vector, which hold sixteen bytes of a text.
-- A mask has a bit for each of sixteen lanes. The bit is set exactly if `Holds` is true of the lane.
pub record IsMask (mask : ℕ) (Holds : ℕ → Type 0) : Type 0 where
  pub small : mask < 65536
  pub bits : (lane : ℕ) → lane < 16 → (bit_at mask lane ≡ 1) ↔ Holds lane

-- Sixteen bytes as hex digits. The mask says which bytes are digits, and `values` has the value of each digit.
pub record AreDigitLanes (bytes values : List ℕ) (mask : ℕ) : Type 0 where
  pub long : length values ≡ 16
  pub digits : IsMask mask (λ lane. IsTrue (is_hex_digit (get_or bytes lane 0)))
  pub value : (lane : ℕ) → lane < 16 → IsTrue (is_hex_digit (get_or bytes lane 0))
      → get_or values lane 0 ≡ hex_value (get_or bytes lane 0)

-- Sixteen pairs of bytes as hex digits. The mask says which pairs are digits, and `bytes` has the byte that each pair denotes.
pub record ArePairLanes (high low bytes : List ℕ) (mask : ℕ) : Type 0 where
  pub long : length bytes ≡ 16
  pub digits : IsMask mask (λ lane. AreDigits (get_or high lane 0) (get_or low lane 0))
  pub byte : (lane : ℕ) → lane < 16 → AreDigits (get_or high lane 0) (get_or low lane 0)
      → AreDigitsOf (get_or bytes lane 0) (get_or high lane 0) (get_or low lane 0)

-- A mask says which of sixteen bytes are separators.
abbrev pub AreSeparatorLanes : List ℕ → ℕ → Type 0
AreSeparatorLanes bytes mask = IsMask mask (λ lane. IsSeparator (get_or bytes lane 0))

-- The first `count` bits of a mask are set, and the next bit is not set.
pub record AreLeading (mask count : ℕ) : Type 0 where
  pub few : count ≤ 16
  pub set : (lane : ℕ) → lane < count → bit_at mask lane ≡ 1
  pub next : bit_at mask count ≡ 0
