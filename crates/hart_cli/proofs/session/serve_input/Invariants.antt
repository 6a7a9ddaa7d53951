use Rattle.std.proofs.Common.{◌≡◌, [], length}
use Rattle.hart_cli.specs.declared.input.TheConstants.{PORTION_LEN}
use Rattle.hart_cli.proofs.lemmas.session.Input.{ServedUpTo}
use Rattle.hart_cli.proofs.session.serve_input.Given as goal

abbrev pub invariant-loop-end : goal.invariant-loop-end
invariant-loop-end g l = record {
  buffer_length : length l.buffer ≡ PORTION_LEN;
  served : ServedUpTo g.S.Station.serves l.initial.server.station l.server l.room (g.R.Source.stream l.initial.reader)
      (g.R.Source.stream l.reader)
      (g.W.Sink.stream l.initial.writer) (g.W.Sink.stream l.writer);
  quiet : l.server.kept ≡ [];
}

abbrev pub decreases-loop-end : goal.decreases-loop-end
decreases-loop-end g l = l.room
