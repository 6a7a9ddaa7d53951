use Rattle.hart_station.specs.Ask.{readable, unreadable}
use Rattle.hart_station.proofs.ask.read_ask.Goals as goal

pub returns-in-Ok : goal.returns-in-Ok
returns-in-Ok c =
    readable _ c.in-Ok.ensures.1 (rw (c.as_slice.ensures.value, c.in-Ok.ensures.0) at c.read_asking_words.ensures)

pub returns-in-Err : goal.returns-in-Err
returns-in-Err c = unreadable c.in-Err.number c.in-Err.ensures
