use Rattle.std.proofs.Common.{◌≡◌, ◌≤◌, ◌+◌, ◌-◌, [], false, None, length}
use Rattle.hart_text.specs.declared.chunk.TheConstants.{CHUNK_LEN}
use Rattle.hart_cli.specs.input.Decoding.{raw_limit}
use Rattle.hart_cli.proofs.lemmas.explain.Input.{RawUpTo}
use Rattle.hart_cli.proofs.calls.explain.explain_bytes.Given as goal

abbrev pub invariant-loop-end : goal.invariant-loop-end
invariant-loop-end g l = record {
  buffer_length : length l.buffer ≡ CHUNK_LEN;
  heard : RawUpTo (g.R.Source.stream l.initial.reader) (g.R.Source.stream l.reader) None l.read l.fn.style l.listener l.printer
      (g.W.Sink.stream l.initial.writer) (g.W.Sink.stream l.writer);
  places : l.listener.first + length l.listener.held ≡ l.read;
  quiet : l.printer.page.kept ≡ [];
  unfailed : l.printer.page.failed ≡ false;
  within : l.read ≤ raw_limit;
}

abbrev pub decreases-loop-end : goal.decreases-loop-end
decreases-loop-end g l = raw_limit - l.read
