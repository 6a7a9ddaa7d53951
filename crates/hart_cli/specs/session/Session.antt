-- The output of a call in which a station, a device or a master, answers each line that it reads (implementation choice).
use Rattle.std.specs.Prelude.{◌≡◌, ◌⊎◌, ℕ, ◌+◌, List, [], ◌∷◌, ◌++◌, Ok, Err}
use Rattle.hart_text.specs.Lines.{lines_of}
use Rattle.hart_line.specs.declared.memory.NoRoom.{NoRoom}
use Rattle.hart_cli.specs.declared.fault.CliFault.TheVariants as faults
use Rattle.hart_station.specs.Station.{Manner, Serves, chars_room, input_limit}
use Rattle.hart_cli.specs.declared.input.InputEnd.TheVariants.{Ended, ReadFailed, TooLong}
use Rattle.hart_cli.specs.ImageWord.{OutcomeRelation}
use Rattle.hart_cli.specs.input.Input.{CameTo, Ending, Left, ReadsToWithin, stream_limit}
use Rattle.hart_cli.specs.input.LiveInput.{WroteInTime}
use Rattle.hart_cli.specs.stream.Stream.{FailsToWrite, Stream, WritesAll}

-- The list with the last line of an input, after which no line feed stands. If the input has not ended, or if the line is empty, the list
-- is empty.
abbrev pub last_lines : Ending → List ℕ → List (List ℕ)
last_lines (CameTo Ended) (byte ∷ more) = (byte ∷ more) ∷ []
last_lines ending last = []

-- The lines of an input that are answered. The input is split at its line feeds, as a script is, and `last_lines` says whether the last
-- line is answered.
pub record HasLines (input : List ℕ) (ending : Ending) (lines : List (List ℕ)) : Type 0 where
  pub whole : List (List ℕ)
  pub last : List ℕ
  pub split : lines_of input ≡ whole ++ last ∷ []
  pub all : lines ≡ whole ++ last_lines ending last

-- The text of a station's answers to the lines of an input.
pub record IsServed {Station : Type 0} (ServesLine : Manner Station) (station : Station) (input : List ℕ) (ending : Ending) (text : List ℕ)
    : Type 0 where
  pub lines : List (List ℕ)
  pub has_lines : HasLines input ending lines
  pub after : Station
  pub serves : Serves ServesLine station lines after text

-- An input was read to this ending. The station's answers to all lines in `HasLines` were written.
pub record ServesTo {Station : Type 0} (ServesLine : Manner Station) (station : Station) (ending : Ending)
    (reader reader_after writer writer_after : Stream) : Type 0 where
  pub input : List ℕ
  pub reads : ReadsToWithin stream_limit reader reader_after input ending
  pub text : List ℕ
  pub is_served : IsServed ServesLine station input ending text
  pub wrote : WritesAll writer writer_after text

-- The text of a station's answers to the whole lines of an input that may go on.
abbrev pub IsServedSoFar : {Station : Type 0} → Manner Station → Station → List ℕ → List ℕ → Type 0
IsServedSoFar ServesLine station input text = IsServed ServesLine station input Left text

-- A write failed within the station's answers to the first lines. A prefix of these answers was written, but not all of them. The answers
-- to the whole lines were written in time, as `WroteInTime` says.
pub record StopsSaying {Station : Type 0} (ServesLine : Manner Station) (station : Station)
    (reader reader_after writer writer_after : Stream)
    : Type 0 where
  pub input : List ℕ
  pub ending : Ending
  pub reads : ReadsToWithin stream_limit reader reader_after input ending
  pub first : List (List ℕ)
  pub later : List (List ℕ)
  pub has_lines : HasLines input ending (first ++ later)
  pub after : Station
  pub text : List ℕ
  pub serves : Serves ServesLine station first after text
  pub fails : FailsToWrite writer writer_after text
  pub in_time : WroteInTime (IsServedSoFar ServesLine station) input writer writer_after

-- How many bytes of memory a line needs: the greatest number of bytes that a line may have, and three more. The first of the three is for a
-- byte that shows that the line is too long. The second is for a carriage return. The third is for the space that completes the last item.
abbrev pub line_room : ℕ
line_room = input_limit + 3

-- Memory for a line or for its characters was refused, and nothing was read or written.
pub record LacksLineRoom (none : NoRoom) (reader reader_after writer writer_after : Stream) : Type 0 where
  pub refused : (none.items ≡ line_room) ⊎ (none.items ≡ chars_room)
  pub unread : reader_after ≡ reader
  pub unwritten : writer_after ≡ writer

-- At `Ok`, a call answered all lines of its input. If a read failed, or the input was longer than the limit, the call answered the whole
-- lines that it had read before. If a write failed, the call wrote a prefix of the station's answers. If memory was refused, the call read
-- nothing and wrote nothing.
abbrev pub ServedOutcome : {Station : Type 0} → Manner Station → Station → OutcomeRelation
ServedOutcome ServesLine station reader reader_after writer writer_after (Ok done) =
    ServesTo ServesLine station (CameTo Ended) reader reader_after writer writer_after
ServedOutcome ServesLine station reader reader_after writer writer_after (Err faults.Read) =
    ServesTo ServesLine station (CameTo ReadFailed) reader reader_after writer writer_after
ServedOutcome ServesLine station reader reader_after writer writer_after (Err faults.TooLong) =
    ServesTo ServesLine station (CameTo TooLong) reader reader_after writer writer_after
ServedOutcome ServesLine station reader reader_after writer writer_after (Err faults.Write) =
    StopsSaying ServesLine station reader reader_after writer writer_after
ServedOutcome ServesLine station reader reader_after writer writer_after (Err (faults.Memory none)) =
    LacksLineRoom none reader reader_after writer writer_after
ServedOutcome ServesLine station reader reader_after writer writer_after (Err fault) = ⊥
