use Rattle.hart_line.proofs.Common.{◌≡◌, ◌+◌, ◌≤◌, ◌++◌, ℕ, List, length, AreEvents, LineEvent, lines_in_words}
use Rattle.hart_line.proofs.script.read_script.Given as goal

-- these lines of a text are not read yet; there are this many lines before them, which write these events
abbrev pub Told : List ℕ → List (List (List ℕ)) → ℕ → List LineEvent → Type 0
Told text left number events = (seen : List (List (List ℕ))) × (lines_in_words text ≡ seen ++ left)
    × (length seen ≡ number) × AreEvents seen events

abbrev pub invariant-loop-events : goal.invariant-loop-events
invariant-loop-events l = record {
  counted : l.number + length l.rest ≤ length l.text;
  told : Told l.text (lines_in_words l.rest) l.number l.events.items;
}

abbrev pub decreases-loop-events : goal.decreases-loop-events
decreases-loop-events l = length l.rest
