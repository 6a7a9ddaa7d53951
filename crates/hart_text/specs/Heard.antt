-- Texts of hex items with marks (implementation choice): a `/` stands for each silence of the line, and a `@` with a word for each date.
use Rattle.std.specs.Prelude.{◌≡◌, ◌≤◌, ◌<◌, ℕ, List, [], ◌∷◌, ◌++◌, length, map, All}
use Rattle.hart_frame.specs.heard.Character.{Character}
use Rattle.hart_text.specs.Items.{IsSeparator, NoPieceBegins, ReadsUpTo}

-- One thing in a text: a character that was heard, a silence of the line, or the date of what was heard next.
pub data Heard : Type 0 where
  HeardChar : (character : Character) → Heard
  Silence : Heard
  Date : (word : List ℕ) → Heard

-- Characters as a list of heard things.
abbrev pub heard_chars : List Character → List Heard
heard_chars chars = map HeardChar chars

-- Adds characters to the front of the first list. If there are no lists, the characters become the only list.
abbrev pub after_chars : List Character → List (List Character) → List (List Character)
after_chars chars [] = chars ∷ []
after_chars chars (first ∷ later) = (chars ++ first) ∷ later

-- The stretches of what was heard: the characters between silences. Dates do not end a stretch.
abbrev pub stretches : List Heard → List (List Character)
stretches [] = [] ∷ []
stretches (HeardChar character ∷ heard) = after_chars (character ∷ []) (stretches heard)
stretches (Silence ∷ heard) = [] ∷ stretches heard
stretches (Date word ∷ heard) = stretches heard

-- A byte is visible if it is a character from `!` to `~`. A space is not visible.
abbrev pub IsVisible : ℕ → Type 0
IsVisible byte = (33 ≤ byte) × (byte ≤ 126)

-- The word of a date has 1 to 32 visible bytes.
pub record IsDateWord (word : List ℕ) : Type 0 where
  pub some : 0 < length word
  pub few : length word ≤ 32
  pub visible : All IsVisible word

-- A text begins with a separator.
pub record BeginsWithSeparator (text : List ℕ) : Type 0 where
  pub byte : ℕ
  pub after : List ℕ
  pub separates : IsSeparator byte
  pub text_is : text ≡ byte ∷ after

-- A text begins with a mark, and `rest` follows. A silence is a `/` (the byte 47). A date is a `@` (the byte 64) and a word. The rest after
-- a date begins with a separator.
abbrev pub BeginsWithMark : List ℕ → Heard → List ℕ → Type 0
BeginsWithMark text (HeardChar character) rest = ⊥
BeginsWithMark text Silence rest = text ≡ 47 ∷ rest
BeginsWithMark text (Date word) rest = IsDateWord word × (text ≡ 64 ∷ word ++ rest) × BeginsWithSeparator rest

-- The part of a text before a rest reads as this list of heard things. It consists of items, separators and marks.
pub data ReadsHeard : List ℕ → List Heard → List ℕ → Type 0 where
  items : (text : List ℕ) (chars : List Character) (rest : List ℕ) → ReadsUpTo text chars rest → ReadsHeard text (heard_chars chars) rest
  mark : (text : List ℕ) (chars : List Character) (next : List ℕ) (mark : Heard) (rest : List ℕ) (heard : List Heard) (last : List ℕ)
      → ReadsUpTo text chars next → BeginsWithMark next mark rest → ReadsHeard rest heard last
      → ReadsHeard text (heard_chars chars ++ mark ∷ heard) last

-- A text begins with no mark.
abbrev pub NoMarkBegins : List ℕ → Type 0
NoMarkBegins text = (mark : Heard) (rest : List ℕ) → BeginsWithMark text mark rest → ⊥

-- A text begins with neither a piece nor a mark.
pub record NothingBegins (text : List ℕ) : Type 0 where
  pub no_piece : NoPieceBegins text
  pub no_mark : NoMarkBegins text

-- A text does not contain this byte.
abbrev pub Lacks : ℕ → List ℕ → Type 0
Lacks byte text = (before rest : List ℕ) → text ≡ before ++ byte ∷ rest → ⊥

-- A text contains no mark: it has neither a `/` nor a `@`.
pub record HasNoMark (text : List ℕ) : Type 0 where
  pub no_silence : Lacks 47 text
  pub no_date : Lacks 64 text
