use Rattle.hart_station.proofs.lemmas.Laws.{lines_have_one_answer-device, lines_have_one_answer-master}
use Rattle.hart_station.proofs.laws.lines_have_one_answer.Goals as goal

pub returns : goal.returns
returns c = assumption (lines_have_one_answer-device, lines_have_one_answer-master)
