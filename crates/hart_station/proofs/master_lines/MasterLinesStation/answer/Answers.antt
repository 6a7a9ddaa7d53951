use Rattle.std.proofs.Common.{arith}
use Rattle.hart_station.proofs.lemmas.Ask.{proper_ask}
use Rattle.hart_station.proofs.lemmas.MasterLines.{serves_ask, serves_bad, serves_items}
use Rattle.hart_station.proofs.master_lines.MasterLinesStation.answer.Goals as goal

pub returns-in-Some : goal.returns-in-Some
returns-in-Some c = λ line is.
    let found = c.in-Some.ensures.items line is in
    serves_items c.args.self.now c.hear_items.new.self line found.0 c.in-Some.items.now _ found.1 found.2 c.hear_items.ensures

pub obey-requires : goal.obey-requires
obey-requires c = record { proper = proper_ask _ _ c.in-Ok.ask c.in-Ok.ensures }

pub returns-in-Ok : goal.returns-in-Ok
returns-in-Ok c = λ line is.
    serves_ask c.args.self.now _ c.obey.new.self c.args.text.now line _ c.in-Ok.ask c.saturating_sub.result c.self.view_is is
    (grind (arith, c.saturating_sub.ensures)) (c.in_default.ensures.items line is) c.in-Ok.ensures c.obey.ensures.state c.obey.ensures.said

pub returns-in-Err : goal.returns-in-Err
returns-in-Err c = λ line is.
    serves_bad c.args.self.now _ c.args.text.now line _ c.in-Err.fault c.saturating_sub.result c.self.view_is is
    (grind (arith, c.saturating_sub.ensures)) (c.in_default.ensures.items line is) c.in-Err.ensures c.bad_line.ensures
