-- Packed text: four characters of six bits each in three bytes (HCF_SPEC-127).
use Rattle.std.specs.Prelude.{◌≡◌, ◌≢◌, ℕ, ◌+◌, ◌*◌, ◌%◌, ◌<◌, ◌≤◌, ◌⊎◌, List, length, slice_index, All}
use Rattle.hart_values.specs.declared.fault.ValueFault.{ValueFault}
use Rattle.hart_values.specs.declared.fault.ValueFault.TheVariants.{WrongLength, BadCharacter, BadDate, OutOfRange}

-- A packed text has 6, 12 or 24 bytes.
abbrev pub IsPackedSize : ℕ → Type 0
IsPackedSize size = (size ≡ 6) ⊎ (size ≡ 12) ⊎ (size ≡ 24)

-- A character of packed text has a code from hex 20 to 5F.
abbrev pub IsCharacter : ℕ → Type 0
IsCharacter code = (32 ≤ code) × (code < 96)

-- Three bytes are the packed form of four characters. As one number of 24 bits, the bytes hold the four codes modulo 64, with the first
-- code in the highest six bits.
abbrev pub IsPackedGroup : (w x y z a b c : ℕ) → Type 0
IsPackedGroup w x y z a b c =
    65536 * a + 256 * b + c ≡ 262144 * (w % 64) + 4096 * (x % 64) + 64 * (y % 64) + z % 64

-- The group with the number `place`, counted from 0, is packed. The three bytes from `3 * place` on are the packed form of the four
-- characters from `4 * place` on.
abbrev pub IsPackedAt : List ℕ → List ℕ → ℕ → Type 0
IsPackedAt text bytes place =
    IsPackedGroup
    (slice_index text (4 * place)) (slice_index text (4 * place + 1))
    (slice_index text (4 * place + 2)) (slice_index text (4 * place + 3))
    (slice_index bytes (3 * place)) (slice_index bytes (3 * place + 1)) (slice_index bytes (3 * place + 2))

-- Bytes are the packed form of a text. The text has only characters of packed text, and four characters for every three bytes. Each group
-- is packed.
pub record IsPacked (text bytes : List ℕ) : Type 0 where
  pub lengths : 3 * length text ≡ 4 * length bytes
  pub characters : All IsCharacter text
  pub bytes_fit : All (λ byte. byte < 256) bytes
  pub groups : (place : ℕ) → 3 * place < length bytes → IsPackedAt text bytes place

-- The place of the first bad character of a text: no bad character comes before it.
pub record IsFirstBadCharacter (text : List ℕ) (place : ℕ) : Type 0 where
  pub in_text : place < length text
  pub bad : ¬ IsCharacter (slice_index text place)
  pub least : (k : ℕ) → k < place → IsCharacter (slice_index text k)

-- Why a text cannot be packed. If the text does not have `characters` characters, the fault is `WrongLength`. If it has this length and a
-- bad character, the fault is `BadCharacter` with the place of the first bad character.
abbrev pub IsTextFault : ℕ → List ℕ → ValueFault → Type 0
IsTextFault characters text WrongLength = length text ≢ characters
IsTextFault characters text (BadCharacter place) = (length text ≡ characters) × IsFirstBadCharacter text place
IsTextFault characters text BadDate = ⊥
IsTextFault characters text OutOfRange = ⊥
