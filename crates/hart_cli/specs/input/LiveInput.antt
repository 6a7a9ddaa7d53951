-- What a call writes if it does not wait for the end of its input (implementation choice).
use Rattle.std.specs.Prelude.{◌≡◌, ◌≤◌, ℕ, ◌+◌, List, ◌++◌, length, Option, Some, None, Ok, Err, ⊤}
use Rattle.std.specs.Io.KnownBytes.{Appends}
use Rattle.hart_cli.specs.declared.fault.CliFault.{CliFault}
use Rattle.hart_cli.specs.declared.fault.CliFault.TheVariants.{BadHex, Write}
use Rattle.hart_cli.specs.ImageWord.{OutcomeRelation}
use Rattle.hart_cli.specs.input.Decoding.{Decoding}
use Rattle.hart_cli.specs.input.Input.{Ending, ReadsToWithin, most_at_once}
use Rattle.hart_cli.specs.stream.Stream.{FailsToWrite, Stream, WritesAll}

-- A relation between what was heard and its texts.
abbrev pub TextRelation : Type 0 → Type 1
TextRelation Heard = Heard → List ℕ → Type 0

-- The text of an input with this first fault, if any: the text of what was heard before the fault.
pub record HasText {Heard : Type 0} (decoding : Decoding Heard) (IsText : TextRelation Heard) (input : List ℕ) (ending : Ending)
    (fault : Option CliFault) (text : List ℕ) : Type 0 where
  pub heard : Heard
  pub has : decoding.Has input ending heard fault
  pub is_text : IsText heard text

-- A call that stops at bad hex has read at most `most_ahead` bytes beyond the place of the bad hex.
abbrev pub StopsSoon : ℕ → List ℕ → Option CliFault → Type 0
StopsSoon most_ahead input (Some (BadHex place)) = length input ≤ place + most_ahead
StopsSoon most_ahead input _ = ⊤

-- An input with a limit was read, to its end or up to its first fault. `fault` is that fault, if any, and `text` is the text of the input.
pub record ReadsText {Heard : Type 0} (decoding : Decoding Heard) (limit : ℕ) (IsText : TextRelation Heard)
    (reader reader_after : Stream) (fault : Option CliFault) (text : List ℕ) : Type 0 where
  pub input : List ℕ
  pub ending : Ending
  pub reads : ReadsToWithin limit reader reader_after input ending
  pub has_text : HasText decoding IsText input ending fault text
  pub soon : StopsSoon decoding.most_ahead input fault

-- The decided text of an input that may go on is the decided text of what was heard so far.
pub record IsDecidedText {Heard : Type 0} (decoding : Decoding Heard) (IsDecided : TextRelation Heard) (input text : List ℕ)
    : Type 0 where
  pub heard : Heard
  pub reads : decoding.SoFar input heard
  pub decided : IsDecided heard text

-- No text was late. The input consists of `before` and `last`. `last` has at most 16,384 bytes, the most that one read returns. All text
-- that `before` decides was written. More may have been written.
pub record WroteInTime (IsDecided : List ℕ → List ℕ → Type 0) (input : List ℕ) (writer writer_after : Stream) : Type 0 where
  pub before : List ℕ
  pub last : List ℕ
  pub split : input ≡ before ++ last
  pub few : length last ≤ most_at_once
  pub text : List ℕ
  pub decided : IsDecided before text
  pub more : List ℕ
  pub written : Appends writer.bytes writer_after.bytes (text ++ more)

-- A write failed within the text of what was decoded before that write. A prefix of that text was written, but not all of it. No text was
-- late (see `WroteInTime`).
pub record StopsWriting {Heard : Type 0} (decoding : Decoding Heard) (limit : ℕ) (IsText IsDecided : TextRelation Heard)
    (reader reader_after writer writer_after : Stream) : Type 0 where
  pub input : List ℕ
  pub ending : Ending
  pub reads : ReadsToWithin limit reader reader_after input ending
  pub heard : Heard
  pub decoded : decoding.Decoded input ending heard
  pub text : List ℕ
  pub is_text : IsText heard text
  pub fails : FailsToWrite writer writer_after text
  pub in_time : WroteInTime (IsDecidedText decoding IsDecided) input writer writer_after

-- At `Ok`, a call wrote the text of the whole input. If a write failed, it wrote a prefix of the text of what it had decoded before that
-- write. At a fault of the input, it wrote the text of what was heard before the fault. The call never fails because memory was refused.
abbrev pub LiveOutcome : {Heard : Type 0} → Decoding Heard → ℕ → TextRelation Heard → TextRelation Heard → OutcomeRelation
LiveOutcome decoding limit IsText IsDecided reader reader_after writer writer_after (Ok done) =
    (text : List ℕ) × ReadsText decoding limit IsText reader reader_after None text × WritesAll writer writer_after text
LiveOutcome decoding limit IsText IsDecided reader reader_after writer writer_after (Err Write) =
    StopsWriting decoding limit IsText IsDecided reader reader_after writer writer_after
LiveOutcome decoding limit IsText IsDecided reader reader_after writer writer_after (Err fault) =
    (text : List ℕ) × ReadsText decoding limit IsText reader reader_after (Some fault) text × WritesAll writer writer_after text
