use Rattle.std.proofs.Common.{◌∙◌, arith, sym}
use Rattle.std.proofs.lemmas.Grind.{common_steps}
use Rattle.hart_station.specs.Ask.{known, too_many, unknown}
use Rattle.hart_station.proofs.ask.read_asking_words.Goals as goal

pub returns-in_default : goal.returns-in_default
returns-in_default c = unknown (sym (rw c.word_at.ensures at c.verb_of.ensures) ∙ c.in_default.is)

pub returns-then-words-from : goal.returns-then-words-from
returns-then-words-from c =
    rw c.most_words-most.ensures
    (too_many c.in-Some.verb (sym (rw c.word_at.ensures at c.verb_of.ensures) ∙ c.in-Some.is)
    (grind (arith, common_steps, c.from.ensures, c.most_words-most.ensures, c.if-words-from.true)))

pub returns : goal.returns
returns c =
    known c.in-Some.verb _ (sym (rw c.word_at.ensures at c.verb_of.ensures) ∙ c.in-Some.is)
    (grind (arith, common_steps, c.from.ensures, c.most_words-most.ensures, c.if-words-from.false)) c.ask_by.ensures
