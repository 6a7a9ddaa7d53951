-- What a server keeps of an input while it answers lines. Only private calls use these definitions (implementation choice).
use Rattle.std.specs.Prelude.{◌≡◌, ℕ, ◌+◌, ◌==◌, false, All, List, [], ◌∷◌, ◌++◌, map, take, Result, Ok, Err, MatchResult}
use Rattle.std.specs.List.{AllByRecursion, flat_map}
use Rattle.std.specs.Str.Lines.{strip_carriage_return}
use Rattle.hart_cli.specs.declared.input.InputEnd.{InputEnd}
use Rattle.hart_cli.specs.declared.input.InputEnd.TheVariants.{Ended}
use Rattle.hart_cli.specs.declared.stream.Failed.{Failed}
use Rattle.hart_cli.specs.input.Input.{CameTo, ReadsWithin, stream_limit}
use Rattle.hart_station.specs.Station.{Manner, Serves, input_limit, line_read}
use Rattle.hart_cli.specs.session.Session.{StopsSaying, last_lines}
use Rattle.hart_cli.specs.stream.Kept.{AddsText}
use Rattle.hart_cli.specs.stream.Stream.{FailsToWrite, Stream, Writes, WritesAll}

-- A part of a text contains no line feed.
abbrev pub HasNoFeed : List ℕ → Type 0
HasNoFeed part = All (λ byte. (byte == 10) ≡ false) part

-- A text is cut into these parts, each with a line feed after it, and a rest without a line feed.
pub record IsCut (text : List ℕ) (parts : List (List ℕ)) (rest : List ℕ) : Type 0 where
  pub all : text ≡ flat_map (λ part. part ++ 10 ∷ []) parts ++ rest
  pub whole : AllByRecursion HasNoFeed parts
  pub open_end : HasNoFeed rest

-- A text begins with this part and a line feed, and `rest` follows.
pub record BeginsWithPart (text part rest : List ℕ) : Type 0 where
  pub free : HasNoFeed part
  pub feed : text ≡ part ++ 10 ∷ rest

-- The greatest number of bytes that are kept of a part. A part with this number of bytes or more is a line that is too long.
abbrev pub most_kept : ℕ
most_kept = input_limit + 2

-- A server has a station, the first bytes of the next line, and the answers that are not yet written.
pub record ServerState (Station : Type 0) : Type 0 where
  pub station : Station
  pub part : List ℕ
  pub kept : List ℕ

-- A server keeps the first `most_kept` bytes of a part.
abbrev pub Keeps : {Station : Type 0} → ServerState Station → List ℕ → Type 0
Keeps server part = server.part ≡ take most_kept part

-- A server answered the line of its kept part, and appended the answer to those that are not yet written. Its kept part is then empty.
pub record ServesPart {Station : Type 0} (ServesLine : Manner Station) (old new : ServerState Station) : Type 0 where
  pub said : List ℕ
  pub serves : ServesLine old.station (line_read (strip_carriage_return old.part)) new.station said
  pub kept : new.kept ≡ old.kept ++ said
  pub begins : Keeps new []

-- A station answered the lines of some parts, one after another.
abbrev pub ServesParts : {Station : Type 0} → Manner Station → Station → List (List ℕ) → Station → List ℕ → Type 0
ServesParts ServesLine station parts after text = Serves ServesLine station (map strip_carriage_return parts) after text

-- A server answered the whole lines of a text, and keeps the rest. The text is the part that the server kept, followed by the bytes that
-- were read after it.
pub record ServesWhole {Station : Type 0} (ServesLine : Manner Station) (old new : ServerState Station) (text : List ℕ)
    (writer writer_after : Stream) : Type 0 where
  pub parts : List (List ℕ)
  pub rest : List ℕ
  pub cut : IsCut text parts rest
  pub keeps : Keeps new rest
  pub said : List ℕ
  pub serves : ServesParts ServesLine old.station parts new.station said
  pub adds : AddsText writer writer_after old.kept new.kept said

-- A write failed within the answers `before`, followed by the station's answers to the first whole lines of `text`.
pub record FailsInParts {Station : Type 0} (ServesLine : Manner Station) (station : Station) (before text : List ℕ)
    (writer writer_after : Stream) : Type 0 where
  pub parts : List (List ℕ)
  pub later : List (List ℕ)
  pub rest : List ℕ
  pub cut : IsCut text (parts ++ later) rest
  pub after : Station
  pub said : List ℕ
  pub serves : ServesParts ServesLine station parts after said
  pub fails : FailsToWrite writer writer_after (before ++ said)

-- The whole lines of a text were answered, or a write failed.
abbrev pub ServesText : {Station T : Type 0} → Manner Station → ServerState Station → ServerState Station → List ℕ → Stream → Stream
    → Result T Failed → Type 0
ServesText ServesLine old new text writer writer_after result =
    MatchResult result
    (λ _. ServesWhole ServesLine old new text writer writer_after)
    (λ _. FailsInParts ServesLine old.station old.kept text writer writer_after)

-- A station answered the last line of an input that ended, unless that line is empty.
pub record ServesLast {Station T : Type 0} (ServesLine : Manner Station) (station : Station) (line : List ℕ)
    (writer writer_after : Stream) (result : Result T Failed) : Type 0 where
  pub after : Station
  pub said : List ℕ
  pub serves : Serves ServesLine station (last_lines (CameTo Ended) line) after said
  pub writes : Writes writer writer_after said result

-- An input was read to its end. The station's answers to all whole lines of the input were written, and the rest of the input is kept.
pub record ServesAll {Station : Type 0} (ServesLine : Manner Station) (station : Station) (server : ServerState Station) (end : InputEnd)
    (reader reader_after writer writer_after : Stream) : Type 0 where
  pub input : List ℕ
  pub reads : ReadsWithin stream_limit reader reader_after input end
  pub parts : List (List ℕ)
  pub rest : List ℕ
  pub cut : IsCut input parts rest
  pub keeps : Keeps server rest
  pub quiet : server.kept ≡ []
  pub said : List ℕ
  pub serves : ServesParts ServesLine station parts server.station said
  pub wrote : WritesAll writer writer_after said

-- An input was read to its end, or until a write failed.
abbrev pub ServesInput : {Station : Type 0} → Manner Station → Station → ServerState Station → Stream → Stream → Stream → Stream
    → Result InputEnd Failed → Type 0
ServesInput ServesLine station server reader reader_after writer writer_after (Ok end) =
    ServesAll ServesLine station server end reader reader_after writer writer_after
ServesInput ServesLine station server reader reader_after writer writer_after (Err failed) =
    StopsSaying ServesLine station reader reader_after writer writer_after
