use Rattle.hart_station.proofs.lemmas.MasterLines.{hears_no_frame, hears_no_reply, hears_reply}
use Rattle.hart_station.proofs.master_lines.hear.Goals as goal

pub returns-in_default : goal.returns-in_default
returns-in_default c =
    let h = hears_no_frame c.args.master.now c.args.delivery.now c.lone_frame.result _ c.lone_frame.ensures.only c.in_default.not-Alone
    c.dash_line.ensures in
    (h.event, h.hears, h.becomes)

pub returns-in-Answered : goal.returns-in-Answered
returns-in-Answered c =
    let h = hears_reply c.args.master.now c.receive.new.self c.args.delivery.now c.in-Alone.found c.in-Answered.sendings _
    c.in-Alone.ensures.lone c.in-Answered.ensures.event c.in-Answered.ensures.state
    (rw c.payload.ensures.value at c.answered_line.ensures) in
    (h.event, h.hears, h.becomes)

pub returns-in_default-receive : goal.returns-in_default-receive
returns-in_default-receive c =
    let h = hears_no_reply c.args.master.now c.receive.new.self c.args.delivery.now c.in-Alone.found c.receive.result _
    c.in-Alone.ensures.only c.receive.ensures.event c.in_default-receive.not-Answered c.receive.ensures.state
    c.dash_line-in_default-receive.ensures in
    (h.event, h.hears, h.becomes)
