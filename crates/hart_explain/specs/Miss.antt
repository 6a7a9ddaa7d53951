-- A place where a message seems to start but no message stands, in words and as members of an object of JSON (implementation choice).
use Rattle.std.specs.Prelude.{◌==◌, if◌then◌else◌, ◌++◌, [], ◌∷◌, ℕ, List, Option, None, Some, codes, decimal}
use Rattle.serde_json.specs.Data.{Data, null}
use Rattle.hart_frame.specs.declared.heard.miss.Miss.{Miss}
use Rattle.hart_frame.specs.declared.heard.miss.Miss.TheVariants.{Faulty, Burst, BadDelimiter, EndsBeforeByteCount, ShortReply, Missing}
use Rattle.hart_frame.specs.declared.heard.miss.Miss.TheVariants.{BadCheck, OnePreamble}
use Rattle.hart_frame.specs.wire.Header.{HeaderParts}
use Rattle.hart_explain.specs.Header.{header_value, header_words}
use Rattle.hart_explain.specs.Json.{Named, count, hex, named, word}
use Rattle.hart_explain.specs.Words.{hex_value, said_line}

-- One byte in hex.
abbrev pub byte_value : ℕ → List ℕ
byte_value byte = hex_value (byte ∷ [])

-- The words for missing characters say how many are missing, and that the last of them is the check byte.
abbrev pub missing_words : ℕ → List ℕ
missing_words count =
    if count == 1 then codes "it lacks 1 character, its check byte"
    else codes "it lacks " ++ decimal count ++ codes " characters, the last of them its check byte"

-- The words of a miss. Bytes and fault bits are in hex, places and counts in decimal.
abbrev pub miss_words : Miss → List ℕ
miss_words (Faulty place faults) = codes "the character at " ++ decimal place ++ codes " has the fault bits " ++ byte_value faults
miss_words Burst = codes "it is a burst message, which is not read"
miss_words (BadDelimiter byte) = byte_value byte ++ codes " is no delimiter of this profile"
miss_words EndsBeforeByteCount = codes "it ends before its byte count"
miss_words (ShortReply byte_count) = codes "it is a reply, and its byte count " ++ decimal byte_count ++ codes " is below 2"
miss_words (Missing count) = missing_words count
miss_words (BadCheck place byte fits) =
    codes "the check byte is " ++ byte_value byte ++ codes " at " ++ decimal place ++ codes ", and " ++ byte_value fits
    ++ codes " would fit"
miss_words OnePreamble = codes "only one intact preamble byte stands directly before it"

-- The line of a miss: in decimal the place where a message seems to start, and then the words of the miss.
abbrev pub miss_line : ℕ → Miss → List ℕ
miss_line place miss = decimal place ++ codes ": no message: " ++ miss_words miss ++ 10 ∷ []

-- The line that says which message seems to begin at the place of a miss, if its header was heard.
abbrev pub seems_line : Option HeaderParts → List ℕ
seems_line None = []
seems_line (Some header) = said_line (codes "seems") (header_words header)

-- The members of a miss: its reason, and details. Bytes and fault bits are in hex, places and counts are numbers.
abbrev pub reason_members : Miss → List Named
reason_members (Faulty place faults) =
    named "reason" (word "faulty") ∷ named "at" (count place) ∷ named "faults" (hex (faults ∷ [])) ∷ []
reason_members Burst = named "reason" (word "burst") ∷ []
reason_members (BadDelimiter byte) = named "reason" (word "bad_delimiter") ∷ named "byte" (hex (byte ∷ [])) ∷ []
reason_members EndsBeforeByteCount = named "reason" (word "ends_before_byte_count") ∷ []
reason_members (ShortReply byte_count) = named "reason" (word "short_reply") ∷ named "byte_count" (count byte_count) ∷ []
reason_members (Missing missing) = named "reason" (word "missing") ∷ named "count" (count missing) ∷ []
reason_members (BadCheck place byte fits) =
    named "reason" (word "bad_check") ∷ named "at" (count place)
    ∷ named "byte" (hex (byte ∷ [])) ∷ named "fits" (hex (fits ∷ [])) ∷ []
reason_members OnePreamble = named "reason" (word "one_preamble") ∷ []

-- Which message seems to begin at the place of a miss: the header that was heard there, or null.
abbrev pub seems_value : Option HeaderParts → Data
seems_value None = null
seems_value (Some header) = header_value header

-- The members of a miss: the place where a message seems to begin, the reason, and which message seems to begin there. The place is the
-- value of `start`, as in a message, and also of `place`, its only name in earlier versions.
abbrev pub miss_members : ℕ → Miss → Option HeaderParts → List Named
miss_members place miss header =
    named "start" (count place) ∷ named "place" (count place) ∷ reason_members miss ++ named "seems" (seems_value header) ∷ []
