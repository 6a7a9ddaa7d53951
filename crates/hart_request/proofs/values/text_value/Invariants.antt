use Rattle.std.proofs.Common.{◌≡◌, ◌<◌, ◌≤◌, ℕ, get_or, length, take, true}
use Rattle.std.specs.Str.{chars}
use Rattle.hart_request.specs.Values.{can_have}
use Rattle.hart_request.proofs.values.text_value.Given as goal

-- the characters so far are those of the text, and are good
abbrev pub invariant-loop-character : goal.invariant-loop-character
invariant-loop-character l = record {
  few : length l.text ≤ l.most;
  count : length l.text ≡ length l.yielded;
  front : l.text ≡ take (length l.text) (chars l.word);
  good : (place : ℕ) → place < length l.text → can_have l.kind (get_or (chars l.word) place 0) ≡ true;
}
