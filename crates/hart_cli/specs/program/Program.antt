-- What the program does with the call that its words make (implementation choice).
use Rattle.std.specs.Prelude.{◌≡◌, ℕ, IfErr, List, Option, Some, Result, Ok, Err}
use Rattle.clap.specs.Words.{Row, Text}
use Rattle.hart_frame.specs.wire.Message.{IsPreambleCount}
use Rattle.hart_cli.specs.Answer.{AnswerOutcome}
use Rattle.hart_cli.specs.program.CommandLine.{Calls, call_of}
use Rattle.hart_cli.specs.dump.Dump.{DumpOutcome}
use Rattle.hart_cli.specs.Encode.{EncodeOutcome}
use Rattle.hart_cli.specs.explain.Explanation.{ExplainOutcome}
use Rattle.hart_cli.specs.FaultText.{fault_line}
use Rattle.hart_cli.specs.master.Master.{MasterCallOutcome}
use Rattle.hart_cli.specs.master.MasterWords.{AreInRange}
use Rattle.hart_cli.specs.Request.{RequestOutcome}
use Rattle.hart_cli.specs.Serve.{ServeOutcome}
use Rattle.hart_cli.specs.sim.Sim.{SimOutcome}
use Rattle.hart_cli.specs.stream.Stream.{Stream, WritesUnlessFailed}
use Rattle.hart_cli.specs.declared.fault.CliFault.{CliFault}
use Rattle.hart_cli.specs.declared.calls.program.command_line.Call.{Call}
use Rattle.hart_cli.specs.declared.calls.program.command_line.Call.TheVariants.{Answer, Dump, Encode, Explain, Master, Request}
use Rattle.hart_cli.specs.declared.calls.program.command_line.Call.TheVariants.{Serve, Sim}

-- A call returned this result, and left the reader and the writer as the outcome of its subcommand allows. `encode` and `request` do not
-- touch the reader.
abbrev pub CallOutcome : Call → Stream → Stream → Stream → Stream → Result (Unit {0}) CliFault → Type 0
CallOutcome (Answer image) reader reader_after writer writer_after result =
    AnswerOutcome image reader reader_after writer writer_after result
CallOutcome Dump reader reader_after writer writer_after result =
    DumpOutcome reader reader_after writer writer_after result
CallOutcome (Explain style is_raw) reader reader_after writer writer_after result =
    ExplainOutcome style is_raw reader reader_after writer writer_after result
CallOutcome (Serve image) reader reader_after writer writer_after result =
    ServeOutcome image reader reader_after writer writer_after result
CallOutcome (Master words) reader reader_after writer writer_after result =
    MasterCallOutcome words reader reader_after writer writer_after result
CallOutcome (Sim image) reader reader_after writer writer_after result =
    SimOutcome image reader reader_after writer writer_after result
CallOutcome (Encode words) reader reader_after writer writer_after result =
    (reader_after ≡ reader) × EncodeOutcome words writer writer_after result
CallOutcome (Request words) reader reader_after writer writer_after result =
    (reader_after ≡ reader) × RequestOutcome words writer writer_after result

-- The exit status is 0 after a call that did its work, and 1 after a fault.
abbrev pub status_of : Result (Unit {0}) CliFault → ℕ
status_of (Ok done) = 0
status_of (Err fault) = 1

-- The program made the call that the words ask for, and ended with the status of the call's result. If the call had a fault, the program
-- reported it.
pub record Ran (words : List Text) (reader reader_after writer writer_after errors errors_after : Stream) (status : ℕ) : Type 0 where
  pub call : Call
  pub calls : Calls call words
  pub result : Result (Unit {0}) CliFault
  pub outcome : CallOutcome call reader reader_after writer writer_after result
  pub ends : status ≡ status_of result
  pub reports : IfErr result (λ fault. WritesUnlessFailed errors errors_after (fault_line fault))

-- Only private calls use the definitions from here on.

-- The program made the call of a subcommand with these matches. The program ended, and reported a fault of the call, as `Ran` says.
pub record Made (met : Option (Text × List Row)) (reader reader_after writer writer_after errors errors_after : Stream)
    (status : ℕ) : Type 0 where
  pub call : Call
  pub gives : call_of met ≡ Some call
  pub result : Result (Unit {0}) CliFault
  pub outcome : CallOutcome call reader reader_after writer writer_after result
  pub ends : status ≡ status_of result
  pub reports : IfErr result (λ fault. WritesUnlessFailed errors errors_after (fault_line fault))

-- The numbers of a call are in range. `encode`, `request` and `master` send 5 to 20 preamble bytes. `master` has at most 15 retries, and a
-- reply timeout of at least 1. Other calls have no numbers.
abbrev pub HasNumbersInRange : Call → Type 0
HasNumbersInRange (Encode words) = IsPreambleCount words.preambles
HasNumbersInRange (Request words) = IsPreambleCount words.preambles
HasNumbersInRange (Master words) = AreInRange words
HasNumbersInRange _ = Unit {0}
