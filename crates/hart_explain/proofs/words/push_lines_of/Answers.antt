use Rattle.hart_explain.proofs.lemmas.Extended.{extending}
use Rattle.hart_explain.proofs.words.push_lines_of.Goals as goal

pub returns-in-TooFew : goal.returns-in-TooFew
returns-in-TooFew c =
    rw (
      c.in-TooFew.is,
      c.push_byte.ensures,
      c.push_number-in-TooFew.ensures.number,
      c.push_text.ensures,
      c.push_number.ensures.number,
      c.push_name.ensures,
      c.push_bytes_line-in-TooFew.ensures,
    ) (simp extending)

pub returns-in-NoReply : goal.returns-in-NoReply
returns-in-NoReply c =
    rw (
      c.in-NoReply.is,
      c.push_byte-in-NoReply.ensures,
      c.push_bytes_or_none.ensures,
      c.push_text-in-NoReply-2.ensures,
      c.push_number-in-NoReply.ensures.number,
      c.from-in-NoReply.ensures,
      c.push_text-in-NoReply.ensures,
    ) (simp extending)
