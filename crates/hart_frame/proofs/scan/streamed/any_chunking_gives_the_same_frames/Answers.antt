use Rattle.hart_frame.proofs.lemmas.Laws.{frames_are_unambiguous-one_list}
use Rattle.hart_frame.proofs.lemmas.scan.Stream.{history_all}
use Rattle.hart_frame.proofs.scan.streamed.any_chunking_gives_the_same_frames.Goals as goal

pub returns : goal.returns
returns c = λ past given other one two.
    frames_are_unambiguous-one_list past 0 given other (history_all past given one) (history_all past other two)
