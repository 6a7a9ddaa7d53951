use Rattle.hart_frame.proofs.lemmas.scan.Undecided.{gives_onward, holds_gives}
use Rattle.hart_frame.proofs.scan.streamed.held_frames_are_given.Goals as goal

pub returns : goal.returns
returns c = record { next = holds_gives; onward = gives_onward }
