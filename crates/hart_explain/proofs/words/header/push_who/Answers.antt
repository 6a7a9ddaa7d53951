use Rattle.hart_explain.proofs.lemmas.Extended.{extending}
use Rattle.hart_explain.proofs.words.header.push_who.Goals as goal

pub returns-in-Stx-clause-words : goal.returns-in-Stx-clause-words
returns-in-Stx-clause-words c = rw (c.in-Stx.is, c.push_device.ensures.words, c.push_request_of.ensures) (simp extending)
