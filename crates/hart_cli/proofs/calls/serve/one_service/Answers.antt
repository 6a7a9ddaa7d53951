use Rattle.hart_station.specs.DeviceLines.{ServesLine}
use Rattle.hart_station.proofs.lemmas.Laws.{lines_have_one_answer-device}
use Rattle.hart_cli.proofs.lemmas.session.Served.{one_list, one_text}
use Rattle.hart_cli.proofs.calls.serve.one_service.Goals as goal

pub returns : goal.returns
returns c device input ending xs ys h k =
    let same = one_list input ending h.lines k.lines h.has_lines k.has_lines in
    (one_text ServesLine lines_have_one_answer-device device h.after k.after k.lines xs ys (rw same at h.serves) k.serves).1
