use Rattle.hart_line.proofs.Common.{arith, start_from, IsSpoken, AllZip-long}
use Rattle.hart_line.proofs.lemmas.line.Room.{spoken_within}
use Rattle.hart_line.proofs.line.run.run.Goals as goal

pub returns-clause-led : goal.returns-clause-led
returns-clause-led g c =
    let (spoken, led, notes) = c.in_ok-ending.ensures.led in
    let within = spoken_within (start_from c.args.device c.args.process.now c.args.primary c.args.secondary) c.args.events.now
    led.world led.last in
    let long = AllZip-long IsSpoken led.world.spoken spoken led.spoken_are in
    let room = c.in_ok-frames.ensures.empty in
    rw (c.new.ensures, c.finish.ensures, notes.items (rw room (omega arith)), room) led
