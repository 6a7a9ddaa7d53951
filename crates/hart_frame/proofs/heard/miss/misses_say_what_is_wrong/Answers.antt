use Rattle.hart_frame.proofs.lemmas.heard.Hint.{bad_check_fits, fault_is_gone, fault_is_there, missing_fits, one_preamble_fits}
use Rattle.hart_frame.proofs.heard.miss.misses_say_what_is_wrong.Goals as goal

pub returns : goal.returns
returns c = record {
  bad_check = bad_check_fits;
  faulty = fault_is_gone;
  fault_bits = fault_is_there;
  missing = missing_fits;
  one_preamble = one_preamble_fits;
}
