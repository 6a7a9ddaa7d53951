use Rattle.hart_frame.proofs.lemmas.heard.Front.{of_chars}
use Rattle.hart_frame.proofs.lemmas.heard.Hint.{miss_is, one_alone, one_miss}
use Rattle.hart_frame.proofs.lemmas.heard.InTheWay.{in_the_way}
use Rattle.hart_frame.proofs.heard.miss.misses_are_in_the_way.Goals as goal

pub returns : goal.returns
returns c = record {
  found = miss_is;
  one = one_miss;
  in_the_way = λ start chars miss fit. in_the_way start chars miss (of_chars chars start fit);
  one_alone = one_alone;
}
