use Rattle.json.specs.Print.{escape_byte}
use Rattle.hart_explain.specs.Json.{further_member}
use Rattle.hart_explain.proofs.lemmas.Extended.{also, last}
use Rattle.hart_explain.proofs.objects.push_reading.Goals as goal

pub returns : goal.returns
unfolding escape_byte further_member
returns c =
    also _ _ _ _ _ c.push_text.ensures (also _ _ _ _ _ c.push_quoted_hex.ensures (also _ _ _ _ _ c.push_text-2.ensures
    (also _ _ _ _ _ c.push_fields.ensures (also _ _ _ _ _ c.push_text-3.ensures (also _ _ _ _ _ c.push_quoted_hex-2.ensures
    (also _ _ _ _ _ c.push_text-4.ensures (last _ _ _ c.push_problem.ensures)))))))
