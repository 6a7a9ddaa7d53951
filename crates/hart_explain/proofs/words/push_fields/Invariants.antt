use Rattle.std.proofs.Common.{◌≡◌, length}
use Rattle.std.specs.List.{flat_map}
use Rattle.hart_explain.specs.Words.{field_line}
use Rattle.hart_explain.specs.Text.{extended}
use Rattle.hart_explain.proofs.words.push_fields.Given as goal

abbrev pub invariant-loop-field : goal.invariant-loop-field
invariant-loop-field l =
    extended l.text (flat_map field_line l.fields) ≡ extended l.initial.text (flat_map field_line l.fn.fields)

abbrev pub decreases-loop-field : goal.decreases-loop-field
decreases-loop-field l = length l.fields
