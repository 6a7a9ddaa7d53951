use Rattle.std.proofs.Common.{◌≡◌, ◌∙◌, List, ◌∷◌, ◌++◌, [], append_assoc, map}
use Rattle.serde_json.specs.Written.{compact_text}
use Rattle.hart_commands.specs.Fields.{Field}
use Rattle.hart_explain.specs.Json.{field_member, further_members, member_words, object_of}
use Rattle.hart_explain.proofs.lemmas.Json.{object-is}
use Rattle.hart_explain.proofs.lemmas.Extended.{also}
use Rattle.hart_explain.proofs.objects.push_fields.Goals as goal

-- the text of an object is made of a first field and of further fields
fields-are : (fields later : List Field) (first : Field) → fields ≡ first ∷ later
    → compact_text (object_of (map field_member fields))
    ≡ 123 ∷ (member_words (field_member first) ++ (further_members (map field_member later) ++ 125 ∷ []))
fields-are fields later first is =
    let member = field_member first in
    let others = map field_member later in
    rw is (object-is member others ∙ append_assoc (123 ∷ member_words member) (further_members others) (125 ∷ []))

pub returns : goal.returns
returns c =
    rw (fields-are _ _ _ c.in-Some.ensures)
    (also _ _ _ _ _ c.push_text-2.ensures (also _ _ _ _ _ c.push_field.ensures
    (also _ _ _ _ _ c.push_further_fields.ensures c.push_text-3.ensures)))
