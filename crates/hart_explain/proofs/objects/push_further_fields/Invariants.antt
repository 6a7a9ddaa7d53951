use Rattle.std.proofs.Common.{◌≡◌, length, map}
use Rattle.hart_explain.specs.Json.{field_member, further_members}
use Rattle.hart_explain.specs.Text.{extended}
use Rattle.hart_explain.proofs.objects.push_further_fields.Given as goal

abbrev pub invariant-loop-field : goal.invariant-loop-field
invariant-loop-field l =
    extended l.text (further_members (map field_member l.fields))
    ≡ extended l.initial.text (further_members (map field_member l.fn.fields))

abbrev pub decreases-loop-field : goal.decreases-loop-field
decreases-loop-field l = length l.fields
