use Rattle.hart_frame.proofs.lemmas.heard.Example.{faulty_is_marked, other_is_check, other_is_not_marked, preamble_is_not_check}
use Rattle.hart_frame.proofs.lemmas.heard.Example.{request_is_not_check}
use Rattle.hart_frame.proofs.heard.damage.damage_by_example.Goals as goal

pub returns : goal.returns
returns c = record {
  marked = faulty_is_marked;
  not_marked = other_is_not_marked;
  check = other_is_check;
  not_check = request_is_not_check;
  not_with_a_preamble = preamble_is_not_check;
}
