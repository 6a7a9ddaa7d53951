use Rattle.std.proofs.Common.{◌≡◌, drop, map}
use Rattle.std.specs.List.{list_any}
use Rattle.hart_request.specs.Fields.{has_name}
use Rattle.hart_request.proofs.fields.is_given.Given as goal

-- no word so far has the name
abbrev pub invariant-loop-word : goal.invariant-loop-word
invariant-loop-word l =
    list_any (has_name l.name) (map (λ word. word.now) l.words)
    ≡ list_any (has_name l.name) (map (λ word. word.now) (drop l.word-index l.words))
