use Rattle.std.proofs.Common.{ℕ, List, length}
use Rattle.hart_cli.specs.session.Server.{HasNoFeed, Keeps}
use Rattle.hart_cli.proofs.lemmas.session.Server.{ServesFront}
use Rattle.hart_cli.proofs.session.server.Server.serve_whole.Given as goal

abbrev pub invariant-loop-part : goal.invariant-loop-part
invariant-loop-part g l =
    (part : List ℕ) → HasNoFeed part → Keeps l.initial.self part
    → ServesFront g.S.Station.serves l.initial.self l.self part l.more l.rest (g.W.Sink.stream l.initial.writer)
    (g.W.Sink.stream l.writer)

abbrev pub decreases-loop-part : goal.decreases-loop-part
decreases-loop-part g l = length l.rest
