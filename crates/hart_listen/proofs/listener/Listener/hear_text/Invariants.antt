use Rattle.std.proofs.Common.{◌-◌, length}
use Rattle.hart_listen.specs.Listener.{HearsText, IsWaiting}
use Rattle.hart_listen.specs.Teller.{moment}
use Rattle.hart_listen.proofs.listener.Listener.hear_text.Given as goal

abbrev pub invariant-loop-mark : goal.invariant-loop-mark
invariant-loop-mark g l = record {
  heard : HearsText g.T.Teller.told l.initial.self l.self l.text l.place
      (moment l.initial.teller l.initial.writer) (moment l.teller l.writer);
  waiting : IsWaiting l.self;
}

abbrev pub decreases-loop-mark : goal.decreases-loop-mark
decreases-loop-mark g l = length l.text - l.place
