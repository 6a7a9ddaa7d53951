-- What is said of a message, or of a place where a message only seems to start: in words, and as a line of JSON (implementation choice).
use Rattle.std.specs.Prelude.{◌<◌, ◌+◌, ◌-◌, ◌^◌, [], ◌∷◌, ◌++◌, ℕ, List}
use Rattle.serde_json.specs.Data.{Data, string}
use Rattle.serde_json.specs.Written.{compact_text}
use Rattle.hart_frame.specs.declared.scan.sighting.Sighting.{Sighting}
use Rattle.hart_frame.specs.declared.scan.sighting.Sighting.TheVariants as given
use Rattle.hart_frame.specs.heard.Sighting.{Message, Missed, Seen}
use Rattle.hart_frame.specs.scan.Sighting.{NamesPlacesBelow}
use Rattle.hart_explain.specs.declared.before.Before.{Before}
use Rattle.hart_explain.specs.Json.{Named, named, object_of, word}
use Rattle.hart_explain.specs.Message.{message_members, paragraph}
use Rattle.hart_explain.specs.Miss.{miss_line, miss_members, seems_line}

-- A date as text, and a space. Without a date it is empty.
abbrev pub date_words : List ℕ → List ℕ
date_words [] = []
date_words (byte ∷ word) = byte ∷ word ++ 32 ∷ []

-- The text of a sighting. For a message it is the message's paragraph, with what is known from earlier messages. For a miss it is the
-- miss's line. If a header was heard there, a second line says which message seems to begin there.
abbrev pub seen_text : Before → Seen → List ℕ
seen_text before (Message found) = paragraph before found
seen_text before (Missed place miss header) = miss_line place miss ++ seems_line header

-- The member of a date, as a string. Without a date, there is no member.
abbrev pub time_members : List ℕ → List Named
time_members [] = []
time_members (byte ∷ word) = named "time" (string (byte ∷ word)) ∷ []

-- A sighting as an object: a message or a miss, with the date of its place. For a message, the object also has what is known from what was
-- heard before it.
abbrev pub data_of : List ℕ → Before → Seen → Data
data_of date before (Message found) =
    object_of (named "type" (word "message") ∷ time_members date ++ message_members before found)
data_of date before (Missed place miss header) =
    object_of (named "type" (word "miss") ∷ time_members date ++ miss_members place miss header)

-- The line of a sighting is its object without spaces, and a line feed.
unfoldable pub json_line : List ℕ → Before → Seen → List ℕ
json_line date before seen = compact_text (data_of date before seen) ++ 10 ∷ []

-- The places of a sighting fit in 64 bits when they are counted from `first` on, and so do the places that its miss names.
abbrev pub FitsFrom : ℕ → Sighting → Type 0
FitsFrom first (given.Message view) = (first + view.start < 2 ^ 64) × (first + view.stop < 2 ^ 64)
FitsFrom first (given.Missed place miss header) = (first + place < 2 ^ 64) × NamesPlacesBelow (2 ^ 64 - first) miss
