use Rattle.std.proofs.Common.{Bor, ◌≡◌, ◌<◌, ◌++◌, ℕ, zero, suc, true, List, [], ◌∷◌, Result, Ok, Err, ◌+◌, sym, ap, arith, drop, get_or}
use Rattle.std.proofs.Common.{length, map, refl, append_assoc}
use Rattle.std.proofs.lemmas.Bool.{and_parts}
use Rattle.std.proofs.lemmas.Grind.{common_steps}
use Rattle.std.proofs.lemmas.List.{at_drop_more}
use Rattle.std.specs.List.{list_all}
use Rattle.hart_commands.specs.Fields.{seen}
use Rattle.hart_commands.specs.WellMade.{is_well_made}
use Rattle.hart_commands.proofs.lemmas.WellMade.{request_rows-are, rows-are}
use Rattle.hart_commands.specs.declared.fields.FieldKind.TheVariants.{Bytes}
use Rattle.hart_commands.specs.declared.fields.FieldRow.{FieldRow}
use Rattle.hart_commands.specs.declared.fields.FieldSize.TheVariants.{Exactly}
use Rattle.hart_request.specs.declared.fault.BadField.{BadField}
use Rattle.hart_request.specs.Fields.{after_bytes, data_of_fields, field_value, joined}
use Rattle.hart_request.proofs.fields.data_of_fields.Goals as goal

-- if all rows are well made, so is the row at place `k`
made_at : (rows : List FieldRow) (k : ℕ) (d : FieldRow) → list_all is_well_made (map seen rows) ≡ true → k < length rows
    → is_well_made (seen (get_or rows k d)) ≡ true
made_at [] k d all below = absurd (omega arith)
made_at (row ∷ rows) zero d all below = (and_parts _ _ all).0
made_at (row ∷ rows) (suc k) d all below = made_at rows k d (and_parts _ _ all).1 (omega arith)

-- bytes that are put before a result in two steps can be put before it in one step
after_after : (xs ys : List ℕ) (rest : Result (List ℕ) BadField) → after_bytes xs (after_bytes ys rest) ≡ after_bytes (xs ++ ys) rest
after_after xs ys (Ok bytes) = ap (λ bs. Ok bs) (sym (append_assoc xs ys bytes))
after_after xs ys (Err bad) = refl

-- the data from a field on are the bytes of this field, and then the data from the next field on
data_at : (command field : ℕ) (words : List (List ℕ)) (rows : List FieldRow) (k : ℕ) (d : FieldRow) → k < length rows
    → data_of_fields command field words (map seen (drop k rows))
    ≡ joined (field_value command field words (seen (get_or rows k d)))
    (data_of_fields command (field + 1) words (map seen (drop (k + 1) rows)))
data_at command field words rows k d below = at_drop_more (λ rows. data_of_fields command field words (map seen rows)) rows k d below

pub field_value-requires : goal.field_value-requires
field_value-requires c =
    let made = (request_rows-are (map seen c.args.rows.now) c.requires).0 in
    made_at c.args.rows.now c.loop-field.field _ (rows-are (map seen c.args.rows.now) made).1 (grind (arith, common_steps))

-- the row that stands for one past the end
no_row : FieldRow
no_row =
    let none : Bor (List ℕ) = record { ref_ptr = (0, 0); now = [] } in
    record { name = none; words = none; size = Exactly 0; kind = Bytes }

pub returns-in_err-bytes : goal.returns-in_err-bytes
unfolding no_row
returns-in_err-bytes c =
    let at = data_at c.args.command c.loop-field.field (map (λ (word : Bor (List ℕ)). word.now) c.args.words.now) c.args.rows.now
    c.loop-field.field no_row (grind (arith, common_steps)) in
    grind (arith, common_steps, at)

pub loop-field-preserved : goal.loop-field-preserved
unfolding no_row
loop-field-preserved c =
    let at = data_at c.args.command c.loop-field.field (map (λ (word : Bor (List ℕ)). word.now) c.args.words.now) c.args.rows.now
    c.loop-field.field no_row (grind (arith, common_steps)) in
    record {
      few = grind (arith, common_steps);
      rest = grind (arith, common_steps, at, after_after);
    }
