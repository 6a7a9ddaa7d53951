-- The bytes of an input that are read but not yet decoded. Only private calls use these definitions (implementation choice).
use Rattle.std.specs.Prelude.{◌≡◌, ◌≢◌, ◌⊎◌, ◌+◌, ◌≤◌, ℕ, List, [], ◌++◌, length, Option, None, Some}
use Rattle.hart_cli.specs.declared.fault.CliFault.{CliFault}
use Rattle.hart_cli.specs.declared.fault.CliFault.TheVariants as faults
use Rattle.hart_cli.specs.declared.input.InputEnd.{InputEnd}
use Rattle.hart_cli.specs.declared.input.InputEnd.TheVariants as ends
use Rattle.hart_cli.specs.declared.input.Portion.{Portion}
use Rattle.hart_cli.specs.declared.input.ahead.NextStep.{NextStep}
use Rattle.hart_cli.specs.declared.input.ahead.NextStep.TheVariants.{ReadOn, Stop}
use Rattle.hart_cli.specs.input.Decoding.{Decoding, ended_text}
use Rattle.hart_cli.specs.input.Input.{Ending, ReadsPortion, ReadsToWithin, ending_of, most_at_once}
use Rattle.hart_cli.specs.input.LiveInput.{StopsSoon}
use Rattle.hart_cli.specs.stream.Stream.{Stream}

-- One read returned bytes, and these bytes were added to the bytes that were read ahead. If the read found the end of the input, a space
-- was added.
pub record ReadsAhead (old new : Stream) (before after : List ℕ) (room : ℕ) (portion : Portion) : Type 0 where
  pub bytes : List ℕ
  pub reads : ReadsPortion old new bytes room portion.end
  pub count : portion.len ≡ length bytes
  pub few : length bytes ≤ most_at_once
  pub added : after ≡ before ++ ended_text bytes (ending_of portion.end)

-- The number of bytes read from an input. If the input ended, the space that stands for the input's end is counted too.
abbrev pub ended_length : Option InputEnd → ℕ → ℕ
ended_length (Some ends.Ended) read = read + 1
ended_length end read = read

-- What the call does next. This depends on the end of the input, if the input has ended, and on the rest that is not decoded. At the end of
-- the input, an empty rest is no fault, and any other rest is bad hex. After a failed read, the fault is `Read` for every rest. Otherwise,
-- a rest that more bytes cannot complete is bad hex. If they can complete it (`IsOpen`), the call reads on, or returns `TooLong` if the
-- input exceeds the limit.
abbrev pub IsNextStep : (List ℕ → Type 0) → Option InputEnd → List ℕ → ℕ → NextStep → Type 0
IsNextStep IsOpen None rest place ReadOn = IsOpen rest
IsNextStep IsOpen None rest place (Stop fault) = (IsOpen rest → ⊥) × (fault ≡ Some (faults.BadHex place))
IsNextStep IsOpen (Some ends.Ended) rest place ReadOn = ⊥
IsNextStep IsOpen (Some ends.Ended) rest place (Stop None) = rest ≡ []
IsNextStep IsOpen (Some ends.Ended) rest place (Stop (Some fault)) = (rest ≢ []) × (fault ≡ faults.BadHex place)
IsNextStep IsOpen (Some ends.ReadFailed) rest place ReadOn = ⊥
IsNextStep IsOpen (Some ends.ReadFailed) rest place (Stop fault) = fault ≡ Some faults.Read
IsNextStep IsOpen (Some ends.TooLong) rest place ReadOn = ⊥
IsNextStep IsOpen (Some ends.TooLong) rest place (Stop fault) =
    (IsOpen rest × (fault ≡ Some faults.TooLong)) ⊎ ((IsOpen rest → ⊥) × (fault ≡ Some (faults.BadHex place)))

-- An input with a limit was read and decoded, to its end or up to its first fault.
pub record DecodesAll {Heard : Type 0} (decoding : Decoding Heard) (limit : ℕ) (reader reader_after : Stream) (fault : Option CliFault)
    (input : List ℕ) (heard : Heard) : Type 0 where
  pub ending : Ending
  pub reads : ReadsToWithin limit reader reader_after input ending
  pub has : decoding.Has input ending heard fault
  pub decoded : decoding.Decoded input ending heard
  pub soon : StopsSoon decoding.most_ahead input fault
