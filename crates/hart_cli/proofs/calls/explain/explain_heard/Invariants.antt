use Rattle.std.proofs.Common.{◌≡◌, ◌≤◌, ◌-◌, [], false, None, length}
use Rattle.hart_text.specs.Items.{Opens}
use Rattle.hart_text.specs.Heard.{NothingBegins}
use Rattle.hart_cli.specs.declared.input.TheConstants.{PORTION_LEN}
use Rattle.hart_cli.specs.input.Input.{stream_limit}
use Rattle.hart_cli.proofs.lemmas.explain.Input.{HeardUpTo}
use Rattle.hart_cli.proofs.calls.explain.explain_heard.Given as goal

abbrev pub invariant-loop-ahead : goal.invariant-loop-ahead
invariant-loop-ahead g l = record {
  buffer_length : length l.buffer ≡ PORTION_LEN;
  heard : HeardUpTo (g.R.Source.stream l.initial.reader) (g.R.Source.stream l.reader) None l.ahead l.read l.fn.style l.listener
      l.printer (g.W.Sink.stream l.initial.writer) (g.W.Sink.stream l.writer);
  quiet : l.printer.page.kept ≡ [];
  unfailed : l.printer.page.failed ≡ false;
  within : l.read ≤ stream_limit;
  short : length l.ahead ≤ 33;
  is_open : Opens NothingBegins l.ahead;
}

abbrev pub decreases-loop-ahead : goal.decreases-loop-ahead
decreases-loop-ahead g l = stream_limit - l.read
