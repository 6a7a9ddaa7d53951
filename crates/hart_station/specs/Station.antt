-- A station, a device or a master, answers lines (implementation choice).
use Rattle.std.specs.Prelude.{ℕ, ◌/◌, List, [], ◌∷◌, ◌++◌, Option, None, Some, codes, if◌then◌else◌, length, nat_le}

-- The greatest number of bytes of an input of `answer`, `dump` and `sim`, and of a line of `serve` and `master`.
abbrev pub input_limit : ℕ
input_limit = 1048576

-- What a station reads of a line: the whole line, or nothing if the line is too long. A line of more than 1,048,576 bytes is too long.
abbrev pub line_read : List ℕ → Option (List ℕ)
line_read line = if nat_le (length line) input_limit then Some line else None

-- The answer to a bad line is a line that says why the line is bad.
abbrev pub bad_line : List ℕ → List ℕ
bad_line reason = codes "bad line: " ++ reason ++ 10 ∷ []

-- A relation between a station's state before a line, what it reads of the line, its state afterwards, and its answer.
abbrev pub Manner : Type 0 → Type 1
Manner Station = Station → Option (List ℕ) → Station → List ℕ → Type 0

-- A station answers lines one after another, each in the state to which the earlier lines led.
pub data Serves {Station : Type 0} (ServesLine : Manner Station) : Station → List (List ℕ) → Station → List ℕ → Type 0 where
  nothing : (station : Station) → Serves ServesLine station [] station []
  first : (station next after : Station) (line : List ℕ) (lines : List (List ℕ)) (said text : List ℕ)
      → ServesLine station (line_read line) next said → Serves ServesLine next lines after text
      → Serves ServesLine station (line ∷ lines) after (said ++ text)

-- How many characters of memory a line needs: one for every two bytes that the line may have.
abbrev pub chars_room : ℕ
chars_room = input_limit / 2
