use Rattle.hart_frame.proofs.Common.{inl, inr}
use Rattle.hart_frame.proofs.lemmas.heard.Hint.{frame_or_miss}
use Rattle.hart_frame.proofs.lemmas.heard.Missed.{miss_of-some, no_miss}
use Rattle.hart_frame.proofs.heard.miss.every_start_has_a_frame_or_a_miss.Goals as goal

pub returns : goal.returns
returns c = record {
  one = frame_or_miss;
  not_both = no_miss;
  only_there = λ place chars miss is. elim (miss_of-some chars place miss is) [ inl start ↦ inl start.0 | inr lone ↦ inr lone.0 ];
}
