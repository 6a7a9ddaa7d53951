use Rattle.hart_frame.proofs.lemmas.Laws.{next_frames_are_all-all, next_frames_are_all-ended, next_frames_are_all-fault}
use Rattle.hart_frame.proofs.lemmas.Laws.{next_frames_are_all-grown}
use Rattle.hart_frame.proofs.lemmas.Laws.{next_frames_are_all-moved, next_frames_are_all-nothing, next_frames_are_all-onward}
use Rattle.hart_frame.proofs.lemmas.Laws.{next_frames_are_all-rest, next_frames_are_all-some, next_frames_are_all-whole}
use Rattle.hart_frame.proofs.scan.next.next_frames_are_all.Goals as goal

pub returns : goal.returns
returns c = record {
  nothing = next_frames_are_all-nothing;
  some = next_frames_are_all-some;
  onward = next_frames_are_all-onward;
  grown = next_frames_are_all-grown;
  ended = next_frames_are_all-ended;
  moved = next_frames_are_all-moved;
  rest = next_frames_are_all-rest;
  all = next_frames_are_all-all;
  whole = next_frames_are_all-whole;
  fault = next_frames_are_all-fault;
}
