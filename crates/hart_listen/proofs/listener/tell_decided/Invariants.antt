use Rattle.std.proofs.Common.{◌≡◌, ◌+◌, ◌-◌, ◌≤◌, length}
use Rattle.hart_frame.specs.scan.Sighting.{heard_with}
use Rattle.hart_listen.specs.LastMessages.{KeepsOwn}
use Rattle.hart_listen.specs.Listener.{HearsDecided}
use Rattle.hart_listen.specs.Teller.{moment}
use Rattle.hart_listen.proofs.listener.tell_decided.Given as goal

abbrev pub invariant-loop-sighting : goal.invariant-loop-sighting
invariant-loop-sighting g l = record {
  hears : HearsDecided g.T.Teller.told l.first l.held l.after l.used l.dates l.initial.past l.past
      (moment l.initial.teller l.initial.writer) (moment l.teller l.writer);
  own : KeepsOwn (l.first + l.used) l.past.last;
  preambles : l.past.preambles ≡ l.initial.past.preambles;
  within : l.used ≤ length (heard_with l.held l.after);
}

abbrev pub decreases-loop-sighting : goal.decreases-loop-sighting
decreases-loop-sighting g l = length (heard_with l.held l.after) - l.used
