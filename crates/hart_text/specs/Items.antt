-- Texts of hex items and separators (implementation choice). A text consists of pieces, and each piece is a separator or an item.
use Rattle.std.specs.Prelude.{◌≡◌, ◌≢◌, ℕ, ◌+◌, ◌⊎◌, List, [], ◌∷◌, ◌++◌, length, Option, ⊤, ◌<◌, ◌≤◌, drop, take}
use Rattle.std.specs.Option.{option_to_list}
use Rattle.hart_frame.specs.heard.Character.{Character, faultless}
use Rattle.hart_text.specs.Item as items
use Rattle.hart_text.specs.Item.{EndsBefore, item_meaning, item_spelling, IsValidItem}

-- A piece of a text is a separator or an item.
pub data Piece : Type 0 where
  Separator : (byte : ℕ) → Piece
  Item : (item : items.Item) → Piece

-- The bytes that spell a piece.
abbrev pub spelling : Piece → List ℕ
spelling (Separator byte) = byte ∷ []
spelling (Item item) = item_spelling item

-- A separator is a space, a tab, a carriage return or a line feed.
abbrev pub IsSeparator : ℕ → Type 0
IsSeparator byte = (byte ≡ 32) ⊎ (byte ≡ 9) ⊎ (byte ≡ 13) ⊎ (byte ≡ 10)

-- A separator is valid if it is a space, a tab, a carriage return or a line feed. An item is valid if its digits and its fault bits are
-- valid.
abbrev pub IsValid : Piece → Type 0
IsValid (Separator byte) = IsSeparator byte
IsValid (Item item) = IsValidItem item

-- The characters that a piece means: none for a separator, and one for an item.
abbrev pub meaning : Piece → List Character
meaning (Separator byte) = []
meaning (Item item) = item_meaning item ∷ []

-- A separator is always whole. An item is whole if another byte follows it, and this byte does not belong to the item.
abbrev pub IsWholeBefore : List ℕ → Piece → Type 0
IsWholeBefore tail (Separator byte) = ⊤
IsWholeBefore tail (Item item) = (tail ≢ []) × EndsBefore tail item

-- A text begins with a valid and whole piece, and `tail` follows.
pub record BeginsWith (text : List ℕ) (piece : Piece) (tail : List ℕ) : Type 0 where
  pub valid : IsValid piece
  pub spelled : text ≡ spelling piece ++ tail
  pub whole : IsWholeBefore tail piece

-- A text reads as these characters, up to a rest: the text before the rest is a sequence of pieces that mean these characters.
pub data ReadsUpTo : List ℕ → List Character → List ℕ → Type 0 where
  nothing : (rest : List ℕ) → ReadsUpTo rest [] rest
  piece : (text : List ℕ) (first : Piece) (tail : List ℕ) (chars : List Character) (rest : List ℕ)
      → BeginsWith text first tail → ReadsUpTo tail chars rest → ReadsUpTo text (meaning first ++ chars) rest

-- A text begins with no piece.
abbrev pub NoPieceBegins : List ℕ → Type 0
NoPieceBegins text = (piece : Piece) (tail : List ℕ) → BeginsWith text piece tail → ⊥

-- A text begins with neither a separator nor an item without fault bits.
abbrev pub NoFaultlessBegins : List ℕ → Type 0
NoFaultlessBegins text = (piece : Piece) (tail bytes : List ℕ) → BeginsWith text piece tail → meaning piece ≡ faultless bytes → ⊥

-- A text can be extended at its end to a text that begins with a piece.
pub record MayBegin (text : List ℕ) : Type 0 where
  pub more : List ℕ
  pub piece : Piece
  pub tail : List ℕ
  pub begins : BeginsWith (text ++ more) piece tail

-- A rest is open if some bytes can be added at its end so that reading goes on. `Stops` says at which rests reading stops.
pub record Opens (Stops : List ℕ → Type 0) (rest : List ℕ) : Type 0 where
  pub more : List ℕ
  pub goes_on : Stops (rest ++ more) → ⊥

-- A text has bad hex at a place: reading stops at this place, although more bytes follow. Up to this place, the text reads as `heard`.
-- `Reads` says how a text reads up to a rest, and `Stops` says at which rests reading stops.
pub record HasBadHexBy {Heard : Type 0} (Reads : List ℕ → List Heard → List ℕ → Type 0) (Stops : List ℕ → Type 0) (text : List ℕ)
    (heard : List Heard) (place : ℕ) : Type 0 where
  pub rest : List ℕ
  pub reads : Reads text heard rest
  pub begins : place + length rest ≡ length text
  pub more : rest ≢ []
  pub no_piece : Stops rest

-- A text has bad hex at a place: it reads as these characters up to this place, and more bytes follow. The bytes from this place on begin
-- with no piece.
abbrev pub HasBadHex : List ℕ → List Character → ℕ → Type 0
HasBadHex = HasBadHexBy ReadsUpTo NoPieceBegins

-- A whole input with a space added at its end. The space makes the last item whole.
abbrev pub closed : List ℕ → List ℕ
closed text = text ++ 32 ∷ []

-- A whole input reads as characters.
abbrev pub ReadsAs : List ℕ → List Character → Type 0
ReadsAs text chars = ReadsUpTo (closed text) chars []

-- A whole input has bad hex at a place.
abbrev pub IsBadHexAt : List ℕ → List Character → ℕ → Type 0
IsBadHexAt text chars place = HasBadHex (closed text) chars place

-- An input to which bytes may be added reads as `heard`, up to a rest at which reading stops. The rest may be empty. If certain bytes are
-- added at its end, reading goes on.
pub record ReadsSoFarBy {Heard : Type 0} (Reads : List ℕ → List Heard → List ℕ → Type 0) (Stops : List ℕ → Type 0) (text : List ℕ)
    (heard : List Heard) : Type 0 where
  pub rest : List ℕ
  pub reads : Reads text heard rest
  pub no_piece : Stops rest
  pub open_end : Opens Stops rest

-- A text begins with a piece of this length. The piece means the character `char`, or no character if `char` is `None`.
pub record BeginsAs (text : List ℕ) (char : Option Character) (len : ℕ) : Type 0 where
  pub piece : Piece
  pub tail : List ℕ
  pub begins : BeginsWith text piece tail
  pub long : length (spelling piece) ≡ len
  pub means : meaning piece ≡ option_to_list char

-- Only private calls use the definitions from here on. They describe the result of reading the first pieces of a text.
-- The first `len` bytes of a text, at least one, are read as these characters.
pub record ReadsFirst (text : List ℕ) (chars : List Character) (len : ℕ) : Type 0 where
  pub some : 0 < len
  pub within : len ≤ length text
  pub reads : ReadsUpTo text chars (drop len text)

-- The first `len` bytes of a text, at least one, were read as characters without faults, and the bytes of these characters were appended to
-- a chunk.
pub record ReadsMore (text old new : List ℕ) (len : ℕ) : Type 0 where
  pub bytes : List ℕ
  pub items : ReadsFirst text (faultless bytes) len
  pub added : new ≡ old ++ bytes

-- The first `len` bytes of a text, at least one, are read as characters without faults. The first `count` elements of `bytes` are the bytes
-- of these characters.
pub record ReadsRun (text bytes : List ℕ) (count len : ℕ) : Type 0 where
  pub few : count ≤ length bytes
  pub items : ReadsFirst text (faultless (take count bytes)) len
