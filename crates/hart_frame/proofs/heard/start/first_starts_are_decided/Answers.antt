use Rattle.hart_frame.proofs.lemmas.heard.Place.{IsFirstStart-one, first_start_decided}
use Rattle.hart_frame.proofs.heard.start.first_starts_are_decided.Goals as goal

pub returns : goal.returns
returns c = record { one = IsFirstStart-one; decided = first_start_decided }
