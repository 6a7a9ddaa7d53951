use Rattle.hart_frame.proofs.lemmas.Laws.{bodies_are_unambiguous-no_proper_prefix, bodies_are_unambiguous-one_body}
use Rattle.hart_frame.proofs.lemmas.Laws.{bodies_are_unambiguous-one_frame, bodies_are_unambiguous-one_prefix}
use Rattle.hart_frame.proofs.lemmas.wire.UnambiguousBodies.{BeginsWithBody-append}
use Rattle.hart_frame.proofs.laws.bodies_are_unambiguous.Goals as goal

pub returns : goal.returns
returns c = record {
  one_frame = bodies_are_unambiguous-one_frame;
  one_body = bodies_are_unambiguous-one_body;
  no_proper_prefix = bodies_are_unambiguous-no_proper_prefix;
  one_prefix = bodies_are_unambiguous-one_prefix;
  whatever_follows = BeginsWithBody-append;
}
