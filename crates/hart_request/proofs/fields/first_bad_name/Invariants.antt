use Rattle.std.proofs.Common.{◌≡◌, [], drop, map, take}
use Rattle.hart_commands.specs.Fields.{seen}
use Rattle.hart_request.specs.Fields.{first_bad_name}
use Rattle.hart_request.proofs.fields.first_bad_name.Given as goal

-- the first bad name of all words is the first bad name among the words to come
abbrev pub invariant-loop-place : goal.invariant-loop-place
invariant-loop-place l =
    first_bad_name (map seen l.rows) [] (map (λ word. word.now) l.words)
    ≡ first_bad_name (map seen l.rows) (map (λ word. word.now) (take l.place l.words)) (map (λ word. word.now) (drop l.place l.words))
