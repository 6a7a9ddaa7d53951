use Rattle.hart_explain.proofs.lemmas.Extended.{extending}
use Rattle.hart_explain.proofs.words.sighting.push_miss_line.Goals as goal

pub returns-clause-words : goal.returns-clause-words
returns-clause-words c =
    rw (c.push_byte.ensures, c.push_miss.ensures.words, c.push_text.ensures, c.push_number.ensures.number) (simp extending)
