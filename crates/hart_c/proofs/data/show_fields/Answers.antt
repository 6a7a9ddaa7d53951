use Rattle.std.proofs.Common.{◌≡◌, ◌<◌, ◌+◌, ℕ, List, ◌∷◌, ◌++◌, drop, take, map, get_or, length, slice_set, Some, append_assoc, arith}
use Rattle.std.proofs.Common.{length-append, sym}
use Rattle.std.proofs.lemmas.Grind.{common_steps}
use Rattle.std.proofs.lemmas.List.{drop-set-lt, take_more_set}
use Rattle.hart_commands.specs.Fields.{Field, fields_of, seen, split}
use Rattle.hart_commands.specs.declared.fields.FieldRow.{FieldRow}
use Rattle.hart_c.specs.Data.{kind_number, placed, written_over}
use Rattle.hart_c.specs.declared.data.HartField.{HartField}
use Rattle.hart_c.proofs.data.show_fields.Goals as goal

-- showing one more field sets its place after the places that are already shown
shown_next : (count place : ℕ) (fields after whole : List HartField) (these others : List Field) (field : Field)
    → after ≡ slice_set fields count (record { start = place; len = length field.bytes; kind = kind_number field.kind })
    → these ≡ field ∷ others → take count fields ++ written_over (placed place these) (drop count fields) ≡ whole
    → take (count + 1) after ++ written_over (placed (place + length field.bytes) others) (drop (count + 1) after) ≡ whole
shown_next count place fields after whole these others field is all before =
    grind (arith, common_steps, take_more_set, drop-set-lt, append_assoc)

-- the fields from a row on are the field of that row and the fields of the rows after it
row_at : (rows : List FieldRow) (i : ℕ) (d : FieldRow) (bytes field after : List ℕ) → i < length rows
    → split (get_or rows i d).size bytes ≡ Some (field, after)
    → (length field + length after ≡ length bytes) × (fields_of (map seen (drop i rows)) bytes
    ≡ record { name = (seen (get_or rows i d)).name; words = (seen (get_or rows i d)).words; kind = (get_or rows i d).kind; bytes = field }
    ∷ fields_of (map seen (drop (i + 1) rows)) after)
row_at rows i d bytes field after within is = (grind (arith, common_steps), grind (arith, common_steps))

pub loop-row-preserved : goal.loop-row-preserved
loop-row-preserved c =
    let split = sym c.in-Some.ensures in
    let more = row_at c.args.rows.now c.loop-row.row-index _ c.loop-row.rest.now c.in-Some.field.now c.in-Some.after.now
    c.loop-row-test.true split in
    grind (arith, common_steps, length-append, more, shown_next)
