use Rattle.std.proofs.Common.{◌≡◌, ◌≤◌, ◌+◌, ◌∙◌, ℕ, List, ◌++◌, arith, length}
use Rattle.hart_explain.specs.Text.{extended}
use Rattle.hart_explain.proofs.lemmas.Laws.{texts_keep_what_fits}
use Rattle.hart_cli.proofs.calls.explain.printer.push_sighting.Goals as goal

-- a text that has room keeps the whole text of a sighting
kept-whole : (old new text : List ℕ) → new ≡ extended old text → length text ≤ 16384 → length old + 16384 ≤ 32768 → new ≡ old ++ text
kept-whole old new text is few room = is ∙ texts_keep_what_fits old text (omega (arith, few, room))

pub returns-in-Words : goal.returns-in-Words
returns-in-Words c =
    rw c.in-Words.is (kept-whole _ _ _ c.push_sighting.ensures.words (c.push_sighting.ensures.few c.requires.date) c.requires.room)

pub returns-in-Objects : goal.returns-in-Objects
returns-in-Objects c =
    rw c.in-Objects.is (kept-whole _ _ _ c.push_line.ensures.line (c.push_line.ensures.few c.requires.date) c.requires.room)
