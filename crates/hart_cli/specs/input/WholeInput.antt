-- What a call writes if it reads its whole input first (implementation choice).
use Rattle.std.specs.Prelude.{◌⊎◌, ℕ, List, Result, Ok, Err}
use Rattle.hart_cli.specs.declared.fault.CliFault.{CliFault}
use Rattle.hart_cli.specs.declared.fault.CliFault.TheVariants.{Write}
use Rattle.hart_cli.specs.declared.input.InputEnd.TheVariants.{Ended}
use Rattle.hart_cli.specs.input.Input.{IsReadingFault, Reads}
use Rattle.hart_cli.specs.stream.Stream.{FailsToWrite, Stream, WritesAll, WritesNothing}

-- An input was read to its end, and `Holds` is true of the input.
pub record WholeInput (reader reader_after : Stream) (Holds : List ℕ → Type 0) : Type 0 where
  pub input : List ℕ
  pub whole : Reads reader reader_after input Ended
  pub holds : Holds input

-- The faults of a call before it writes: a read failed, the input was too long, memory for the input was refused, or the whole input has a
-- fault in its content.
abbrev pub HasWholeFault : (List ℕ → CliFault → Type 0) → Stream → Stream → CliFault → Type 0
HasWholeFault HasFault reader reader_after fault =
    IsReadingFault reader reader_after fault ⊎ WholeInput reader reader_after (λ input. HasFault input fault)

-- At `Ok`, a call wrote the text for its whole input. If a write failed, it wrote a prefix of that text. At any other fault it wrote
-- nothing.
abbrev pub WholeOutcome : (List ℕ → List ℕ → Type 0) → (List ℕ → CliFault → Type 0) → Stream → Stream → Stream → Stream
    → Result (Unit {0}) CliFault → Type 0
WholeOutcome IsText HasFault reader reader_after writer writer_after (Ok done) =
    (text : List ℕ) × WholeInput reader reader_after (λ input. IsText input text) × WritesAll writer writer_after text
WholeOutcome IsText HasFault reader reader_after writer writer_after (Err Write) =
    (text : List ℕ) × WholeInput reader reader_after (λ input. IsText input text) × FailsToWrite writer writer_after text
WholeOutcome IsText HasFault reader reader_after writer writer_after (Err fault) =
    HasWholeFault HasFault reader reader_after fault × WritesNothing writer writer_after
