-- The words of a line of `hart master` (implementation choice).
use Rattle.std.specs.Prelude.{◌≡◌, ◌⊎◌, ℕ, ◌+◌, ◌<◌, ◌≤◌, ◌==◌, Bool, true, false, All, List, [], ◌∷◌, ◌++◌, filter, get_or}
use Rattle.std.specs.Prelude.{if◌then◌else◌, length}
use Rattle.std.specs.Prelude.{Option, None, Some}
use Rattle.std.specs.List.{list_any, slice_split}
use Rattle.std.specs.Str.{IsUtf8}

-- The byte that separates the words of a line: a tab if the line has a tab, and otherwise a space.
abbrev pub separator_of : List ℕ → ℕ
separator_of line = if list_any (λ byte. byte == 9) line then 9 else 32

-- Whether a list of bytes is not empty.
abbrev pub has_bytes : List ℕ → Bool
has_bytes [] = false
has_bytes (byte ∷ part) = true

-- The words of a line are the nonempty parts between its separators.
abbrev pub words_of : List ℕ → List (List ℕ)
words_of line = filter has_bytes (slice_split (λ byte. byte == separator_of line) line)

-- The word at a place, counted from 0, or the empty word if there is no such word.
abbrev pub word_at : List (List ℕ) → ℕ → List ℕ
word_at words place = get_or words place []

-- Words are readable if there are at most 64, and each is valid UTF-8.
abbrev pub AreReadable : List (List ℕ) → Type 0
AreReadable words = (length words ≤ 64) × All IsUtf8 words

-- The number, counted from 1, of the first word that makes the words unreadable. This word is no valid UTF-8, or it is the 65th.
pub record IsFirstUnreadable (words : List (List ℕ)) (number : ℕ) : Type 0 where
  pub earlier : List (List ℕ)
  pub word : List ℕ
  pub later : List (List ℕ)
  pub split : words ≡ earlier ++ word ∷ later
  pub numbered : number ≡ length earlier + 1
  pub readable : AreReadable earlier
  pub bad : (length earlier ≡ 64) ⊎ (IsUtf8 word → ⊥)

-- Only private calls use the definitions from here on.

-- A text is cut at its first separator into the part before the separator and the rest after it. Without a separator, the part is the whole
-- text, and there is no rest.
abbrev pub IsCutAt : ℕ → List ℕ → List ℕ → Option (List ℕ) → Type 0
IsCutAt separator text part None = All (λ byte. (byte == separator) ≡ false) text × (part ≡ text)
IsCutAt separator text part (Some rest) = All (λ byte. (byte == separator) ≡ false) part × (text ≡ part ++ separator ∷ rest)

-- An empty part was ignored. Any other part is a readable word, and was appended to the words before it.
abbrev pub AddsPart : List (List ℕ) → List ℕ → List (List ℕ) → Type 0
AddsPart words part after =
    ((part ≡ []) × (after ≡ words))
    ⊎ ((0 < length part) × (length words < 64) × IsUtf8 part × (after ≡ words ++ part ∷ []))

-- A part is a word that cannot be read: it is no valid UTF-8, or 64 words stand before it. The number of the word is counted from 1.
abbrev pub IsBadPart : List (List ℕ) → List ℕ → ℕ → Type 0
IsBadPart words part number =
    (0 < length part) × (number ≡ length words + 1) × ((length words ≡ 64) ⊎ (IsUtf8 part → ⊥))
