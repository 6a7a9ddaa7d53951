use Rattle.hart_line.proofs.Common.{List, drop, take, Spoken, start_from}
use Rattle.hart_line.specs.line.Room.{HasRoomFor}
use Rattle.hart_line.proofs.lemmas.line.Reached.{IsReached}
use Rattle.hart_line.proofs.line.logged.carry_out.Given as goal

abbrev pub invariant-loop-index : goal.invariant-loop-index
invariant-loop-index g l = record {
  told : (noted : List Spoken) × g.L.Log.notes l.fn.log noted l.log
      × IsReached (start_from l.fn.device l.process l.fn.primary l.fn.secondary) (take l.index l.events) l.line noted;
  room : HasRoomFor (drop l.index l.events) l.line;
}
