use Rattle.hart_frame.proofs.lemmas.scan.Scan.{moves_frames, moves_hearing, moves_then}
use Rattle.hart_frame.proofs.scan.streamed.scanners_move_past_the_next_frames.Goals as goal

pub returns : goal.returns
returns c = record { onward = moves_then; hearing = moves_hearing; frames = moves_frames }
