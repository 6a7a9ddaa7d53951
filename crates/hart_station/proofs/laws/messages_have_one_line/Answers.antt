use Rattle.hart_station.proofs.lemmas.OneWay.{messages_have_one_line}
use Rattle.hart_station.proofs.laws.messages_have_one_line.Goals as goal

pub returns : goal.returns
returns c = messages_have_one_line
