-- Text that is made piece by piece: a first part of the text is written, and the rest is kept. Only private calls use these definitions
-- (implementation choice).
use Rattle.std.specs.Prelude.{◌≡◌, ◌≤◌, ◌+◌, ◌++◌, List, ℕ, MatchResult, Result, length}
use Rattle.hart_cli.specs.declared.stream.Failed.{Failed}
use Rattle.hart_cli.specs.stream.Stream.{FailsToWrite, Stream, WritesAll}

-- The kept text, of at most 32,768 bytes, has room for `count` more bytes.
abbrev pub HasRoomFor : ℕ → List ℕ → Type 0
HasRoomFor count text = length text + count ≤ 32768

-- A text was appended to the kept text `before`. A first part of both texts together was written, and the rest, `after`, is kept.
pub record AddsText (old new : Stream) (before after text : List ℕ) : Type 0 where
  pub written : List ℕ
  pub wrote : WritesAll old new written
  pub whole : written ++ after ≡ before ++ text

-- Either a text was appended to the kept text, as `AddsText` says. Or a write failed after a prefix of both texts together was written, but
-- not all of them.
abbrev pub AddsUnlessFailed : {T : Type 0} → Stream → Stream → List ℕ → List ℕ → List ℕ → Result T Failed → Type 0
AddsUnlessFailed old new before after text result =
    MatchResult result (λ _. AddsText old new before after text) (λ _. FailsToWrite old new (before ++ text))
