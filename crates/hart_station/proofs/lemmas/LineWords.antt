-- The words of a line, read one after another.
use Rattle.std.proofs.Common.{◌≡◌, ◌<◌, ◌==◌, ◌+◌, ◌⊎◌, ℕ, true, List, [], ◌∷◌, ◌++◌, Option, None, Some}
use Rattle.std.proofs.Common.{append_assoc, append-nil, filter, length, refl, sym, ◌∙◌, arith, inl, inr}
use Rattle.std.proofs.lemmas.Bool.Decides.{nat_tests}
use Rattle.std.proofs.lemmas.Grind.{common_steps}
use Rattle.std.proofs.lemmas.List.Elements.{All-append, All-cons, All-nil}
use Rattle.std.proofs.lemmas.List.Splits.{slice_split_at, slice_split_none}
use Rattle.std.specs.List.{slice_split}
use Rattle.std.specs.Str.{IsUtf8}
use Rattle.hart_station.specs.LineWords.{AddsPart, AreReadable, IsBadPart, IsCutAt, IsFirstUnreadable, has_bytes, separator_of, words_of}

-- the words in the rest of a line that is not read yet
abbrev pub words_left : ℕ → Option (List ℕ) → List (List ℕ)
words_left separator None = []
words_left separator (Some text) =
    filter has_bytes (slice_split (λ byte. byte == separator) text)

-- a part put before other words, unless it is empty
abbrev pub put : List ℕ → List (List ℕ) → List (List ℕ)
put [] words = words
put (byte ∷ part) words = (byte ∷ part) ∷ words

-- the number of bytes of a line that are not read yet
abbrev pub size_left : Option (List ℕ) → ℕ
size_left None = 0
size_left (Some text) = length text + 1

-- leaving out the empty ones of some parts gives the same as putting each part before the words after it
filters_part : (part : List ℕ) (parts : List (List ℕ))
    → filter has_bytes (part ∷ parts) ≡ put part (filter has_bytes parts)
filters_part [] parts = refl
filters_part (byte ∷ part) parts = refl

-- a number equals itself
same_byte : (n : ℕ) → (n == n) ≡ true
same_byte n = grind (arith, nat_tests)

-- the words of a text are its first part, unless that is empty, and the words of the rest
pub words_step : (separator : ℕ) (text part : List ℕ) (after : Option (List ℕ)) → IsCutAt separator text part after
    → words_left separator (Some text) ≡ put part (words_left separator after)
words_step separator text part None h =
    rw (slice_split_none (λ byte. byte == separator) text h.0, h.1) (filters_part text [])
words_step separator text part (Some rest) h =
    rw (h.1, slice_split_at (λ byte. byte == separator) part separator rest h.0 (same_byte separator))
    (filters_part part (slice_split (λ byte. byte == separator) rest))

-- after each part, fewer bytes of the line are left
pub size_step : (separator : ℕ) (text part : List ℕ) (after : Option (List ℕ)) → IsCutAt separator text part after
    → size_left after < size_left (Some text)
size_step separator text part None h = omega arith
size_step separator text part (Some rest) h = grind (arith, common_steps)

-- the words that were read so far, and the rest of the line
pub record ReadSoFar (line : List ℕ) (words : List (List ℕ)) (rest : Option (List ℕ)) : Type 0 where
  pub all : words ++ words_left (separator_of line) rest ≡ words_of line
  pub readable : AreReadable words

none_yet : (line : List ℕ) → ReadSoFar line [] (Some line)
none_yet line = record { all = refl; readable = (omega arith, All-nil _) }

pub reads_none : (line : List ℕ) (words : List (List ℕ)) → words ≡ [] → ReadSoFar line words (Some line)
reads_none line words is = rw is (none_yet line)

-- an empty part adds no word
reads_empty : (line : List ℕ) (words : List (List ℕ)) (text part : List ℕ) (after : Option (List ℕ)) → ReadSoFar line words (Some text)
    → IsCutAt (separator_of line) text part after → part ≡ [] → ReadSoFar line words after
reads_empty line words text part after h cut none = record {
  all = rw (words_step (separator_of line) text part after cut, none) at h.all;
  readable = h.readable;
}

-- a part that is not empty is a word
put_word : (part : List ℕ) (words : List (List ℕ)) → 0 < length part → put part words ≡ part ∷ words
put_word [] words some = absurd (omega (arith, some))
put_word (byte ∷ part) words some = refl

reads_word : (line : List ℕ) (words : List (List ℕ)) (text part : List ℕ) (after : Option (List ℕ)) → ReadSoFar line words (Some text)
    → IsCutAt (separator_of line) text part after → 0 < length part → length words < 64 → IsUtf8 part
    → ReadSoFar line (words ++ part ∷ []) after
reads_word line words text part after h cut some few utf8 = record {
  all = rw append_assoc
      (rw (words_step (separator_of line) text part after cut, put_word part (words_left (separator_of line) after) some) at h.all);
  readable = (
    grind (arith, common_steps),
    All-append IsUtf8 words (part ∷ []) h.readable.1 (All-cons IsUtf8 part [] utf8 (All-nil _)),
  );
}

-- a part that cannot be read is the first unreadable word
reads_bad : (line : List ℕ) (words : List (List ℕ)) (text part : List ℕ) (after : Option (List ℕ)) (number : ℕ)
    → ReadSoFar line words (Some text) → IsCutAt (separator_of line) text part after → 0 < length part
    → number ≡ length words + 1 → (length words ≡ 64) ⊎ (IsUtf8 part → ⊥) → IsFirstUnreadable (words_of line) number
reads_bad line words text part after number h cut some numbered bad = record {
  earlier = words;
  word = part;
  later = words_left (separator_of line) after;
  split = sym (rw (words_step (separator_of line) text part after cut, put_word part (words_left (separator_of line) after) some) at h.all);
  numbered = numbered;
  readable = h.readable;
  bad = bad;
}

-- after a part is added, the words are those read so far
pub reads_part : (line : List ℕ) (words added : List (List ℕ)) (text part : List ℕ) (after : Option (List ℕ))
    → ReadSoFar line words (Some text) → IsCutAt (separator_of line) text part after → AddsPart words part added
    → ReadSoFar line added after
reads_part line words added text part after h cut (inl none) = rw none.1 (reads_empty line words text part after h cut none.0)
reads_part line words added text part after h cut (inr it) = rw it.3 (reads_word line words text part after h cut it.0 it.1 it.2)

-- a part that is a bad word has the number of the first unreadable word
pub reads_bad_part : (line : List ℕ) (words : List (List ℕ)) (text part : List ℕ) (after : Option (List ℕ)) (number : ℕ)
    → ReadSoFar line words (Some text) → IsCutAt (separator_of line) text part after → IsBadPart words part number
    → IsFirstUnreadable (words_of line) number
reads_bad_part line words text part after number h cut bad = reads_bad line words text part after number h cut bad.0 bad.1 bad.2

-- if nothing of the line is left, all its words were read
pub reads_all : (line : List ℕ) (words : List (List ℕ)) → ReadSoFar line words None → (words ≡ words_of line) × AreReadable (words_of line)
reads_all line words h =
    let all : words ≡ words_of line = sym (append-nil words) ∙ h.all in (all, rw all at h.readable)
