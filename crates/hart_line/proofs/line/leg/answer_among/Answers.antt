use Rattle.hart_line.proofs.Common.{arith, common_steps, OneFrame}
use Rattle.hart_line.proofs.lemmas.line.Leg.{among_frame, frame_given}
use Rattle.hart_line.proofs.line.leg.answer_among.Goals as goal

pub returns-in-Some-clause-answers : goal.returns-in-Some-clause-answers
returns-in-Some-clause-answers g c = record {
  brought = OneFrame c.in-Some.frame.now;
  is_brought = grind (arith, common_steps, among_frame);
  answer_is = frame_given _ _ _ c.receive_into.ensures.answers c.receive_into.ensures.answer;
  after_is = c.receive_into.ensures.state;
}
