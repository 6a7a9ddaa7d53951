use Rattle.json.specs.Print.{escape_byte}
use Rattle.hart_explain.proofs.lemmas.Extended.{extending}
use Rattle.hart_explain.proofs.objects.push_object_of.Goals as goal

pub returns-in-Refused : goal.returns-in-Refused
unfolding escape_byte
returns-in-Refused c =
    rw (
      c.in-Refused.is,
      c.push_text-in-Refused-3.ensures,
      c.push_name.ensures,
      c.code_name.ensures.name,
      c.push_text-in-Refused-2.ensures,
      c.push_number-in-Refused.ensures.number,
      c.from.ensures,
      c.push_text-in-Refused.ensures,
    ) (simp extending)

pub returns-in-NoReply : goal.returns-in-NoReply
unfolding escape_byte
returns-in-NoReply c = rw (c.in-NoReply.is) c.push_text-in-NoReply.ensures

pub returns-in-NotRead : goal.returns-in-NotRead
unfolding escape_byte
returns-in-NotRead c =
    rw (
      c.in-NotRead.is,
      c.push_text-in-NotRead-2.ensures,
      c.push_number-in-NotRead.ensures.number,
      c.from-in-NotRead.ensures,
      c.push_text-in-NotRead.ensures,
    ) (simp extending)
