use Rattle.hart_frame.proofs.lemmas.heard.Place.{no_start}
use Rattle.hart_frame.proofs.heard.start.first_start.Goals as goal

pub returns : goal.returns
returns c = no_start c.args.chars.now c.loop-place.place c.loop-place.invariant.none c.loop-place-test.false
