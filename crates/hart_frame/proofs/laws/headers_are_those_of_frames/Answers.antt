use Rattle.hart_frame.proofs.lemmas.Laws.{headers_are_those_of_frames-body, headers_are_those_of_frames-exactly}
use Rattle.hart_frame.proofs.lemmas.Laws.{headers_are_those_of_frames-stays}
use Rattle.hart_frame.proofs.laws.headers_are_those_of_frames.Goals as goal

pub returns : goal.returns
returns c = record {
  exactly = headers_are_those_of_frames-exactly;
  body = headers_are_those_of_frames-body;
  stays = headers_are_those_of_frames-stays;
}
