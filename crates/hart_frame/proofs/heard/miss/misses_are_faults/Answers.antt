use Rattle.hart_frame.proofs.lemmas.heard.Front.{of_chars}
use Rattle.hart_frame.proofs.lemmas.heard.InTheWay.{miss_is_fault, whole_is_no_fault}
use Rattle.hart_frame.proofs.heard.miss.misses_are_faults.Goals as goal

pub returns : goal.returns
returns c = record {
  refused = λ start chars miss fit. miss_is_fault start chars miss (of_chars chars start fit);
  whole = λ start len chars miss frame fit. whole_is_no_fault start chars miss frame len (of_chars chars start fit);
}
