-- The marks by which a POSIX serial port reports receive errors (implementation choice).
use Rattle.std.specs.Prelude.{◌≡◌, ◌≢◌, ◌≤◌, ◌<◌, ◌++◌, ℕ, List, [], ◌∷◌, drop, length, take}
use Rattle.hart_c.specs.declared.find.HartChar.{HartChar}
use Rattle.hart_c.specs.declared.mark.HartUnmarked.{HartUnmarked}

-- How a port with PARMRK delivers one character. A byte with a receive error comes after FF 00, and its character has the fault bit of
-- vertical parity. The byte FF without an error comes as FF FF. An FF before any other byte, except 00, is ignored.
abbrev pub IsMarked : List ℕ → HartChar → Type 0
IsMarked (byte ∷ []) char = (byte ≢ 0xFF) × (char ≡ record { byte = byte; faults = 0 })
IsMarked (mark ∷ byte ∷ []) char = (mark ≡ 0xFF) × (byte ≢ 0) × (char ≡ record { byte = byte; faults = 0 })
IsMarked (mark ∷ second ∷ byte ∷ []) char = (mark ≡ 0xFF) × (second ≡ 0) × (char ≡ record { byte = byte; faults = 0x40 })
IsMarked _ char = ⊥

-- A port delivers these bytes for these characters, one character after another.
pub data AreMarked : List ℕ → List HartChar → Type 0 where
  none : AreMarked [] []
  next : (bytes mark : List ℕ) (chars : List HartChar) (char : HartChar) → AreMarked bytes chars → IsMarked mark char
      → AreMarked (bytes ++ mark) (chars ++ char ∷ [])

-- The bytes are the beginning of a mark: FF, FF 00, or no bytes at all.
abbrev pub IsCut : List ℕ → Type 0
IsCut [] = Unit {0}
IsCut (mark ∷ []) = mark ≡ 0xFF
IsCut (mark ∷ second ∷ []) = (mark ≡ 0xFF) × (second ≡ 0)
IsCut _ = ⊥

-- The used bytes are exactly the bytes that the port delivered for the written characters. No other element of the output changes. If the
-- output has room for more characters, the unused bytes are only the beginning of a mark, or none.
pub record Unmarks (bytes : List ℕ) (before after : List HartChar) (told : HartUnmarked) : Type 0 where
  pub used : told.used ≤ length bytes
  pub shown : told.len ≤ length after
  pub marked : AreMarked (take told.used bytes) (take told.len after)
  pub room : length after ≡ length before
  pub untouched : drop told.len after ≡ drop told.len before
  pub left : told.len < length after → IsCut (drop told.used bytes)
