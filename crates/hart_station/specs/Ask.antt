-- What a line of `hart master` asks of the master, unless the line says what was heard (implementation choice).
use Rattle.std.specs.Prelude.{◌≡◌, ℕ, ◌+◌, ◌<◌, ◌≤◌, List, [], ◌∷◌, codes, drop, length, Option, None, Some, Result, Ok, Err}
use Rattle.hart_values.specs.declared.master_id.MasterId.{MasterId}
use Rattle.hart_values.specs.declared.master_id.MasterId.TheVariants.{Primary, Secondary}
use Rattle.hart_frame.specs.wire.FrameParts.{FrameParts}
use Rattle.hart_line.specs.script.Words.{decimal_of, named_in}
use Rattle.hart_station.specs.declared.ask.Ask.{Ask}
use Rattle.hart_station.specs.declared.ask.Ask.TheVariants as asks
use Rattle.hart_station.specs.declared.ask.Verb.{Verb}
use Rattle.hart_station.specs.declared.ask.Verb.TheVariants.{Ask as AskVerb, Send, Submit, Tick}
use Rattle.hart_station.specs.declared.fault.TextFault.{TextFault}
use Rattle.hart_station.specs.declared.fault.TextFault.TheVariants.{BadWord}
use Rattle.hart_station.specs.Encode.{MessageWords, WordsOutcome}
use Rattle.hart_station.specs.LineWords.{AreReadable, IsFirstUnreadable, word_at, words_of}
use Rattle.hart_station.specs.Request.{ReadOutcome, RequestWords}

-- The words with which a line can begin, and what each of them asks.
abbrev pub verbs : List (List ℕ × Verb)
verbs = (codes "submit", Submit) ∷ (codes "ask", AskVerb) ∷ (codes "send", Send) ∷ (codes "tick", Tick) ∷ []

-- The greatest number of words in a line, by the line's first word.
abbrev pub most_words : Verb → ℕ
most_words Submit = 4
most_words AskVerb = 64
most_words Send = 1
most_words Tick = 2

-- The word of a master: P for the primary master, and S for the secondary master.
abbrev pub who_word : MasterId → List ℕ
who_word Primary = codes "P"
who_word Secondary = codes "S"

-- The words after `submit` are the words of `hart encode` from ADDRESS on. The number of preamble bytes is not used here.
abbrev pub message_words : MasterId → List (List ℕ) → MessageWords
message_words who words = record {
  who = who_word who;
  address = word_at words 1;
  command = word_at words 2;
  payload = word_at words 3;
  preambles = 5;
}

-- The words after `ask` are the words of `hart request` from ADDRESS on.
abbrev pub request_words : MasterId → List (List ℕ) → RequestWords
request_words who words = record {
  who = who_word who;
  address = word_at words 1;
  command = word_at words 2;
  fields = drop 3 words;
  preambles = 5;
}

-- A line asks for the request that its words describe. If the words have a fault, so has the line.
abbrev pub submitted : Result FrameParts TextFault → Result Ask TextFault
submitted (Ok request) = Ok (asks.Submit request)
submitted (Err fault) = Err fault

-- A line asks to let this number of character times pass. If its second word is no number, that word is bad.
abbrev pub ticked : Option ℕ → Result Ask TextFault
ticked (Some count) = Ok (asks.Tick count)
ticked None = Err (BadWord 2)

-- What a line with this first word asks, or what is wrong with its words. `tick` takes a number from 0 to 255.
abbrev pub AsksBy : MasterId → List (List ℕ) → Verb → Result Ask TextFault → Type 0
AsksBy who words Submit result =
    (read : Result FrameParts TextFault) × WordsOutcome (message_words who words) read × (result ≡ submitted read)
AsksBy who words AskVerb result =
    (read : Result FrameParts TextFault) × ReadOutcome (request_words who words) read × (result ≡ submitted read)
AsksBy who words Send result = result ≡ Ok asks.Send
AsksBy who words Tick result = result ≡ ticked (decimal_of 3 255 (word_at words 1))

-- What words ask, or which word is bad. The first word is bad if it is none of `verbs`. If there are too many words, the first word beyond
-- the limit is bad.
pub data ReadsWords (who : MasterId) (words : List (List ℕ)) : Result Ask TextFault → Type 0 where
  unknown : named_in verbs (word_at words 0) ≡ None → ReadsWords who words (Err (BadWord 1))
  too_many : (verb : Verb) → named_in verbs (word_at words 0) ≡ Some verb → most_words verb < length words
      → ReadsWords who words (Err (BadWord (most_words verb + 1)))
  known : (verb : Verb) (result : Result Ask TextFault) → named_in verbs (word_at words 0) ≡ Some verb → length words ≤ most_words verb
      → AsksBy who words verb result → ReadsWords who words result

-- What a line asks, or what is wrong with the line.
pub data ReadsAsk (who : MasterId) (line : List ℕ) : Result Ask TextFault → Type 0 where
  unreadable : (number : ℕ) → IsFirstUnreadable (words_of line) number → ReadsAsk who line (Err (BadWord number))
  readable : (result : Result Ask TextFault) → AreReadable (words_of line) → ReadsWords who (words_of line) result
      → ReadsAsk who line result
