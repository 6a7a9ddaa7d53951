use Rattle.std.proofs.Common.{map, option_map}
use Rattle.hart_station.proofs.lemmas.LineWords.{ReadSoFar, size_left}
use Rattle.hart_station.specs.LineWords.{separator_of}
use Rattle.std.proofs.Common.{◌≡◌}
use Rattle.hart_station.proofs.line_words.read_words.Given as goal

abbrev pub invariant-loop-rest : goal.invariant-loop-rest
invariant-loop-rest l =
    (l.separator ≡ separator_of l.line)
    × ReadSoFar l.line (map (λ word. word.now) l.words.items) (option_map (λ text. text.now) l.rest)

abbrev pub decreases-loop-rest : goal.decreases-loop-rest
decreases-loop-rest l = size_left (option_map (λ text. text.now) l.rest)
