use Rattle.json.specs.Print.{escape_byte}
use Rattle.hart_explain.specs.Json.{further_member}
use Rattle.hart_explain.proofs.lemmas.Extended.{extending}
use Rattle.hart_explain.proofs.objects.sighting.push_preambles.Goals as goal

pub returns-in-Some-clause-members : goal.returns-in-Some-clause-members
unfolding escape_byte further_member
returns-in-Some-clause-members c =
    rw (c.in-Some.is, c.push_number.ensures.number, c.push_text.ensures) (simp extending)
