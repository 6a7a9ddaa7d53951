use Rattle.std.proofs.Common.{◌≡◌, ◌≤◌, ◌-◌, ℕ, List, [], None, length}
use Rattle.hart_text.specs.Items.{MayBegin}
use Rattle.hart_cli.specs.declared.input.TheConstants.{PORTION_LEN}
use Rattle.hart_station.specs.Station.{input_limit}
use Rattle.hart_cli.specs.stream.Stream.{WritesAll}
use Rattle.hart_cli.proofs.lemmas.dump.ScanInput.{HeardUpTo}
use Rattle.hart_cli.proofs.calls.dump.scan_input.Given as goal

abbrev pub invariant-loop-frames : goal.invariant-loop-frames
invariant-loop-frames g l = record {
  buffer_length : length l.buffer ≡ PORTION_LEN;
  text : List ℕ;
  heard : HeardUpTo
      (g.R.Source.stream l.initial.reader) (g.R.Source.stream l.reader)
      l.frames.first l.frames.held None l.ahead l.read text;
  wrote : WritesAll (g.W.Sink.stream l.initial.writer) (g.W.Sink.stream l.writer) text;
  none_kept : l.frames.lines ≡ [];
  within : l.read ≤ input_limit;
  short : length l.ahead ≤ 5;
  may_begin : MayBegin l.ahead;
}

abbrev pub decreases-loop-frames : goal.decreases-loop-frames
decreases-loop-frames g l = input_limit - l.read
