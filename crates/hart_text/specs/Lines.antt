-- The lines of a text, and the words of a line (implementation choice).
use Rattle.std.specs.Prelude.{◌≡◌, ◌<◌, ℕ, Bool, true, false, ◌==◌, ◌||◌, ◌+◌, List, [], ◌∷◌, drop, filter, get_or, length}
use Rattle.std.specs.Prelude.{map, if◌then◌else◌}
use Rattle.std.specs.Int.{bit_at}
use Rattle.std.specs.List.{position_or_len, slice_split}
use Rattle.std.specs.Str.Lines.{strip_carriage_return}

-- The lines of a text are its parts between line feeds. If the last byte of a part is a carriage return, the line lacks this byte. The text
-- after the last line feed is a line too, even if it is empty.
abbrev pub lines_of : List ℕ → List (List ℕ)
lines_of text = map strip_carriage_return (slice_split (λ byte. byte == 10) text)

-- The text after the first line feed, or the empty text if there is no line feed.
abbrev pub after_line_feed : List ℕ → List ℕ
after_line_feed text = drop (position_or_len (λ byte. byte == 10) text + 1) text

-- A blank is a space or a tab.
abbrev pub is_blank : ℕ → Bool
is_blank byte = (byte == 32) || (byte == 9)

-- Whether a part has at least one byte.
abbrev pub has_bytes : List ℕ → Bool
has_bytes [] = false
has_bytes (byte ∷ part) = true

-- The words of a line are its nonempty parts between blanks.
abbrev pub words_of : List ℕ → List (List ℕ)
words_of line = filter has_bytes (slice_split is_blank line)

-- The lines of a text, each as the list of its words.
abbrev pub lines_in_words : List ℕ → List (List (List ℕ))
lines_in_words text = map words_of (lines_of text)

-- Only private calls use the definitions from here on. A mask has a bit for each byte of a list. The bit is set exactly if the byte passes
-- the test `passes`.
abbrev pub AreMarks : (ℕ → Bool) → ℕ → List ℕ → Type 0
AreMarks passes mask bytes = (k : ℕ) → k < length bytes → bit_at mask k ≡ if passes (get_or bytes k 0) then 1 else 0

-- A mask says which bytes of a part of a line are blanks. The part has fewer than 64 bytes.
abbrev pub HasBlanks : ℕ → List ℕ → Type 0
HasBlanks mask bytes = (length bytes < 64) × AreMarks is_blank mask bytes
