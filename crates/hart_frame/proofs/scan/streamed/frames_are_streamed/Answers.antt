use Rattle.hart_frame.proofs.lemmas.scan.Stream.{history_all, history_first, history_length, history_next}
use Rattle.hart_frame.proofs.scan.streamed.frames_are_streamed.Goals as goal

pub returns : goal.returns
returns c = record { next = history_next; so_far = history_first; all = history_all; pushed = history_length }
