use Rattle.std.proofs.Common.{arith, ℕ, List, Option, []}
use Rattle.std.proofs.lemmas.Result.{err_from_is_err_and}
use Rattle.hart_text.specs.Items.{NoPieceBegins, ReadsUpTo}
use Rattle.hart_cli.specs.declared.calls.dump.frame_lines.FrameLines.{FrameLines}
use Rattle.hart_cli.specs.declared.fault.CliFault.{CliFault}
use Rattle.hart_cli.specs.dump.Dump.{AreDecidedLines, AreFrameLines}
use Rattle.hart_cli.specs.dump.FrameLines.{AddsRest, HearsAll}
use Rattle.hart_cli.specs.input.Decoding.{item_decoding, most_ahead}
use Rattle.hart_station.specs.Station.{input_limit}
use Rattle.hart_cli.specs.input.LiveInput.{ReadsText}
use Rattle.hart_cli.specs.stream.Stream.{Stream, WritesAll}
use Rattle.hart_cli.proofs.lemmas.Writes.{FailsToWrite-on, WritesAll-on}
use Rattle.hart_cli.proofs.lemmas.dump.FrameLines.{all_lines}
use Rattle.hart_cli.proofs.lemmas.input.Decoded.{ends_with, stops_in}
use Rattle.hart_cli.proofs.calls.dump.dump.Goals as goal

-- an input was dumped up to its end or its first fault
has_dump : {r r' w w1 : Stream} {frames : FrameLines} {fault : Option CliFault} {lines : List ℕ} (w' : Stream)
    → HearsAll r r' w w1 frames fault → AddsRest frames.first frames.held [] lines → WritesAll w1 w' lines
    → (all : List ℕ) × ReadsText item_decoding input_limit AreFrameLines r r' fault all × WritesAll w w' all
has_dump w' all adds wrote =
    (_, grind (arith, all_lines all.chars _ _ all.text _ all.has adds), WritesAll-on _ _ w' all.text _ all.wrote wrote)

pub returns-in_err-finish : goal.returns-in_err-finish
returns-in_err-finish g c =
    let all = c.in_ok-fault.ensures in
    let (lines, adds, fails) = c.in_err-finish.ensures in
    let stop = err_from_is_err_and c.from_residual-in_err-finish.result c.from_residual-in_err-finish.ensures.1 in
    rw (stop.1, stop.2)
    (stops_in item_decoding input_limit AreFrameLines AreDecidedLines _ _ _ _ _ all.input all.decodes.ending all.chars _ _ all.decodes.reads
    all.decodes.decoded (all_lines all.chars _ _ all.text _ all.has adds) all.in_time
    (FailsToWrite-on _ _ _ all.text _ all.wrote fails) fails)

pub returns-in-Some : goal.returns-in-Some
returns-in-Some g c =
    let all = rw c.in-Some.is at c.in_ok-fault.ensures in
    let (last, adds, writes) = c.in_ok-finish.ensures in
    let (lines, dump, wrote) = has_dump _ all adds writes in
    ends_with ReadsUpTo NoPieceBegins most_ahead input_limit AreFrameLines AreDecidedLines _ _ _ _ c.in-Some.fault lines dump wrote

pub returns-in-None : goal.returns-in-None
returns-in-None g c =
    let (last, adds, writes) = c.in_ok-finish.ensures in has_dump _ (rw c.in-None.is at c.in_ok-fault.ensures) adds writes
