use Rattle.json.specs.Print.{escape_byte}
use Rattle.hart_explain.proofs.lemmas.Extended.{extending}
use Rattle.hart_explain.proofs.objects.push_variable.Goals as goal

pub returns : goal.returns
unfolding escape_byte
returns c =
    rw (
      c.push_text-6.ensures,
      c.push_quoted_hex-2.ensures,
      c.push_text-5.ensures,
      c.push_quoted_hex.ensures,
      c.push_text-4.ensures,
      c.push_number-3.ensures.number,
      c.from-3.ensures,
      c.push_text-3.ensures,
      c.push_number-2.ensures.number,
      c.from-2.ensures,
      c.push_text-2.ensures,
      c.push_number.ensures.number,
      c.from.ensures,
      c.push_text.ensures,
    ) (simp extending)
