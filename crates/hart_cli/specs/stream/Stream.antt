-- Readers and writers as contracts see them (implementation choice).
use Rattle.std.specs.Prelude.{◌≡◌, ◌≢◌, ◌⊎◌, ℕ, ◌+◌, ◌-◌, ◌^◌, min, List, [], ◌++◌, Option, Result, MatchResult}
use Rattle.std.specs.Io.KnownBytes.{Appends, Keeps}
use Rattle.hart_cli.specs.declared.stream.Failed.{Failed}

-- The count of failures after one more failure. This count never exceeds 2^64 - 1.
abbrev pub count_after_failure : ℕ → ℕ
count_after_failure count = min (count + 1) (2 ^ 64 - 1)

-- What contracts see of a reader or a writer. `bytes` are the bytes that are left to read, or the bytes that were written, if they are
-- known. `failures` says how often the reader or writer has failed.
pub record Stream : Type 0 where
  pub bytes : Option (List ℕ)
  pub failures : ℕ

-- A failed read or write raises the count of failures by one. Success leaves the count unchanged.
abbrev pub CountsFailure : {T : Type 0} → Stream → Stream → Result T Failed → Type 0
CountsFailure old new result =
    MatchResult result (λ _. new.failures ≡ old.failures) (λ _. new.failures ≡ count_after_failure old.failures)

-- A prefix of the text was written, but not all of the text.
pub record WritesPrefix (old new : Option (List ℕ)) (text : List ℕ) : Type 0 where
  pub prefix : List ℕ
  pub rest : List ℕ
  pub split : text ≡ prefix ++ rest
  pub short : rest ≢ []
  pub written : Appends old new prefix

-- The whole text was written, and no write failed.
abbrev pub WritesAll : Stream → Stream → List ℕ → Type 0
WritesAll old new text = Appends old.bytes new.bytes text × (new.failures ≡ old.failures)

-- A write failed after a prefix of the text was written, but not all of it.
abbrev pub FailsToWrite : Stream → Stream → List ℕ → Type 0
FailsToWrite old new text = WritesPrefix old.bytes new.bytes text × (new.failures ≡ count_after_failure old.failures)

-- At `Ok` the whole text was written. Otherwise a write failed after a prefix of the text was written, but not all of it.
abbrev pub Writes : {T E : Type 0} → Stream → Stream → List ℕ → Result T E → Type 0
Writes old new text result = MatchResult result (λ _. WritesAll old new text) (λ _. FailsToWrite old new text)

-- Either the whole text was written and no write failed, or a write failed after a prefix of the text was written, but not all of it.
abbrev pub WritesUnlessFailed : Stream → Stream → List ℕ → Type 0
WritesUnlessFailed old new text = WritesAll old new text ⊎ FailsToWrite old new text

-- Nothing was written, and no write failed.
abbrev pub WritesNothing : Stream → Stream → Type 0
WritesNothing old new = Keeps old.bytes new.bytes × (new.failures ≡ old.failures)
