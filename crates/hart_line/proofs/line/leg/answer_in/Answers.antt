use Rattle.hart_line.proofs.Common.{OneFrame}
use Rattle.hart_line.proofs.lemmas.line.Leg.{clean_reaches, frame_given}
use Rattle.hart_line.proofs.line.leg.answer_in.Goals as goal

pub returns-in-Some-clause-answers : goal.returns-in-Some-clause-answers
returns-in-Some-clause-answers g c = λ said is. rw c.in-Clean.is (record {
  brought = OneFrame c.in-Some.frame.now;
  is_brought = clean_reaches c.args.device.now.identity c.in-Some.frame.now said (rw c.in-Some.is at is);
  answer_is = frame_given _ _ _ c.receive_into.ensures.answers c.receive_into.ensures.answer;
  after_is = c.receive_into.ensures.state;
})
