use Rattle.std.proofs.Common.{◌≡◌, ◌<◌, ℕ, false, get_or, map, []}
use Rattle.hart_commands.specs.Fields.{seen}
use Rattle.hart_request.specs.Fields.{is_for}
use Rattle.hart_request.proofs.fields.place_for.Given as goal

-- no word so far gives the field a value
abbrev pub invariant-loop-place : goal.invariant-loop-place
invariant-loop-place l =
    (place : ℕ) → place < l.place → is_for (seen l.row) (get_or (map (λ word. word.now) l.words) place []) ≡ false
