use Rattle.std.proofs.Common.{◌≡◌, ℕ, List, ◌++◌, length}
use Rattle.std.specs.Io.KnownBytes.{Appends}
use Rattle.hart_cli.proofs.output.write_all.Given as goal

abbrev pub invariant-loop-rest : goal.invariant-loop-rest
invariant-loop-rest g l = record {
  written : List ℕ;
  split : l.text ≡ written ++ l.rest;
  appended : Appends (g.W.Sink.stream l.initial.writer).bytes (g.W.Sink.stream l.writer).bytes written;
  failures : (g.W.Sink.stream l.writer).failures ≡ (g.W.Sink.stream l.initial.writer).failures;
}

abbrev pub decreases-loop-rest : goal.decreases-loop-rest
decreases-loop-rest g l = length l.rest
