use Rattle.std.proofs.Common.{◌≡◌, ◌-◌, ◌⊎◌, ◌≤◌, ◌++◌, length, replicate}
use Rattle.hart_request.proofs.values.pad.Given as goal

-- only spaces were added so far
abbrev pub invariant-loop-text : goal.invariant-loop-text
invariant-loop-text l = record {
  within : (length l.text ≤ l.most) ⊎ (l.text ≡ l.fn.text);
  spaces : l.text ≡ l.fn.text ++ replicate (length l.text - length l.fn.text) 32;
}

abbrev pub decreases-loop-text : goal.decreases-loop-text
decreases-loop-text l = l.most - length l.text
