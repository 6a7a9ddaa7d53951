-- Texts of hex items (implementation choice): an item is two hex digits, after which a `!` and two more hex digits may give fault bits.
use Rattle.std.specs.Prelude.{◌≡◌, ◌≢◌, ℕ, ◌+◌, ◌*◌, List, [], ◌∷◌, ◌++◌, length, unwrap_or, IsTrue, ⊤}
use Rattle.hart_frame.specs.heard.Character.{AreFaultBits, Character}
use Rattle.hex.specs.Hex.{hex_digit_value, is_hex_digit}

-- An item is the high and the low digit of its byte, alone or with the two digits of its fault bits.
pub data Item : Type 0 where
  Plain : (high low : ℕ) → Item
  Faulty : (high low fault_high fault_low : ℕ) → Item

-- The bytes that spell an item. The byte 33 is the `!`.
abbrev pub item_spelling : Item → List ℕ
item_spelling (Plain high low) = high ∷ low ∷ []
item_spelling (Faulty high low fault_high fault_low) = high ∷ low ∷ 33 ∷ fault_high ∷ fault_low ∷ []

-- Two bytes are digits if both are hex digits, of either case.
abbrev pub AreDigits : ℕ → ℕ → Type 0
AreDigits high low = IsTrue (is_hex_digit high) × IsTrue (is_hex_digit low)

-- The value of a hex digit, or 0 if the byte is no hex digit.
abbrev pub hex_value : ℕ → ℕ
hex_value digit = unwrap_or (hex_digit_value digit) 0

-- The byte that two hex digits denote.
abbrev pub byte_of : ℕ → ℕ → ℕ
byte_of high low = 16 * hex_value high + hex_value low

-- A valid item has hex digits. Its fault bits, if given, are not 00, and all of them are defined fault bits.
abbrev pub IsValidItem : Item → Type 0
IsValidItem (Plain high low) = AreDigits high low
IsValidItem (Faulty high low fault_high fault_low) =
    AreDigits high low × AreDigits fault_high fault_low × (byte_of fault_high fault_low ≢ 0) × AreFaultBits (byte_of fault_high fault_low)

-- The character that an item means has the byte and the fault bits of the item.
abbrev pub item_meaning : Item → Character
item_meaning (Plain high low) = record { byte = byte_of high low; faults = 0 }
item_meaning (Faulty high low fault_high fault_low) =
    record { byte = byte_of high low; faults = byte_of fault_high fault_low }

-- An item may end before `tail`. An item without fault bits may not end directly before a `!`, since that `!` would belong to the item.
abbrev pub EndsBefore : List ℕ → Item → Type 0
EndsBefore tail (Faulty high low fault_high fault_low) = ⊤
EndsBefore [] (Plain high low) = ⊤
EndsBefore (next ∷ tail) (Plain high low) = next ≢ 33

-- A text is a valid item followed by `tail`, and `EndsBefore` allows the item to end before `tail`.
pub record BeginsWithItem (text : List ℕ) (item : Item) (tail : List ℕ) : Type 0 where
  pub valid : IsValidItem item
  pub spelled : text ≡ item_spelling item ++ tail
  pub ends : EndsBefore tail item

-- No item stands at the beginning of a text.
abbrev pub NoItemBegins : List ℕ → Type 0
NoItemBegins text = (item : Item) (tail : List ℕ) → BeginsWithItem text item tail → ⊥

-- A text begins with an item of this length, which means this character.
pub record BeginsAsItem (text : List ℕ) (char : Character) (len : ℕ) : Type 0 where
  pub item : Item
  pub tail : List ℕ
  pub begins : BeginsWithItem text item tail
  pub long : length (item_spelling item) ≡ len
  pub means : item_meaning item ≡ char
