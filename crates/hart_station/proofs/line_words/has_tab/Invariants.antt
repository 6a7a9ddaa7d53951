use Rattle.std.proofs.Common.{◌≡◌, ◌==◌, drop}
use Rattle.std.specs.List.{list_any}
use Rattle.hart_station.proofs.line_words.has_tab.Given as goal

-- no byte so far is a tab
abbrev pub invariant-loop-byte : goal.invariant-loop-byte
invariant-loop-byte l = list_any (λ byte. byte == 9) l.line ≡ list_any (λ byte. byte == 9) (drop l.byte-index l.line)
