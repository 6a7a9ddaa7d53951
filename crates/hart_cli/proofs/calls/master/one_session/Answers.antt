use Rattle.hart_station.specs.MasterLines.{ServesMasterLine}
use Rattle.hart_station.proofs.lemmas.Laws.{lines_have_one_answer-master}
use Rattle.hart_cli.proofs.lemmas.session.Served.{one_list, one_text}
use Rattle.hart_cli.proofs.calls.master.one_session.Goals as goal

pub returns : goal.returns
returns c asker input ending xs ys h k =
    let same = one_list input ending h.lines k.lines h.has_lines k.has_lines in
    (one_text ServesMasterLine lines_have_one_answer-master asker h.after k.after k.lines xs ys (rw same at h.serves) k.serves).1
