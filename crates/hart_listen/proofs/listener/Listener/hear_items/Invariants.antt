use Rattle.std.proofs.Common.{◌-◌, length}
use Rattle.hart_listen.specs.Listener.{HearsText, IsWaiting}
use Rattle.hart_listen.specs.Teller.{moment}
use Rattle.hart_listen.proofs.listener.Listener.hear_items.Given as goal

abbrev pub invariant-loop-lead : goal.invariant-loop-lead
invariant-loop-lead g l = record {
  heard : HearsText g.T.Teller.told l.initial.self l.self l.text l.place
      (moment l.initial.teller l.initial.writer) (moment l.teller l.writer);
  waiting : IsWaiting l.self;
}

abbrev pub decreases-loop-lead : goal.decreases-loop-lead
decreases-loop-lead g l = length l.text - l.place
