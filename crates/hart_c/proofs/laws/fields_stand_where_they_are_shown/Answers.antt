use Rattle.std.proofs.Common.{◌≡◌, ◌<◌, ◌+◌, ℕ, zero, suc, All, List, [], ◌∷◌, ◌++◌, Bool, Some, append_assoc, arith, drop, length}
use Rattle.std.proofs.Common.{length-append, refl, slice_get, take, true, false, Ok, Err}
use Rattle.std.proofs.Math.Seq.{drop-append-add, drop-append_seam, take-append_seam}
use Rattle.std.proofs.lemmas.Grind.{common_steps}
use Rattle.std.proofs.lemmas.List.{length-take, take-append-drop, take_min}
use Rattle.std.proofs.lemmas.Option.{slice_get_cases}
use Rattle.hart_commands.specs.Commands.{request_rows}
use Rattle.hart_commands.specs.Parts.{content_bytes}
use Rattle.hart_commands.specs.FieldWidths.{HasWidthOfKind}
use Rattle.hart_commands.specs.Fields.{Field, Row, bytes_of, fields_of}
use Rattle.hart_commands.specs.RequestData.{Reading, request_data, request_reading}
use Rattle.hart_commands.proofs.lemmas.Laws.{fields_have_the_width_of_their_kind-reply, fields_have_the_width_of_their_kind-request}
use Rattle.hart_commands.proofs.lemmas.Laws.{written_payloads_are_read_again-kept}
use Rattle.hart_c.specs.Data.{IsShown, RequestOutcome, StandsAt, kind_number, placed, rows_for, written_over}
use Rattle.hart_c.specs.declared.data.HartField.{HartField}
use Rattle.hart_c.specs.declared.data.HartReading.{HartReading}
use Rattle.hart_c.proofs.laws.fields_stand_where_they_are_shown.Goals as goal

-- what is shown at an index is the field with this index, whose bytes stand between the bytes of the fields before and after it
field_of : (from : ℕ) (fields : List Field) (before : List HartField) (index : ℕ) (shown : HartField) → index < length fields
    → slice_get (written_over (placed from fields) before) index ≡ Some shown
    → (field : Field) × (slice_get fields index ≡ Some field) × (shown.start ≡ from + length (bytes_of (take index fields)))
    × (shown.len ≡ length field.bytes) × (shown.kind ≡ kind_number field.kind)
    × (bytes_of fields ≡ bytes_of (take index fields) ++ (field.bytes ++ bytes_of (drop (suc index) fields)))
field_of from [] before index shown within is = absurd (omega (arith, within))
field_of from (field ∷ fields) [] index shown within is = cc
field_of from (field ∷ fields) (other ∷ before) zero shown within is = grind arith
field_of from (field ∷ fields) (other ∷ before) (suc index) shown within is =
    grind (arith, append_assoc, length-append, field_of (from + length field.bytes) fields before index shown (omega (arith, within)) is)

-- each field has a row at the same index, with the field's words and kind
row_of : (rows : List Row) (bytes : List ℕ) (index : ℕ) (field : Field) → slice_get (fields_of rows bytes) index ≡ Some field
    → (row : Row) × (slice_get rows index ≡ Some row) × (field.words ≡ row.words) × (field.kind ≡ row.kind)
row_of [] bytes index field is = cc
row_of (row ∷ rows) bytes zero field is = (row, refl, grind arith, grind arith)
row_of (row ∷ rows) bytes (suc index) field is = grind (arith, row_of rows)

-- the bytes of all fields are the first bytes of the data
bytes_first : (rows : List Row) (bytes : List ℕ)
    → bytes_of (fields_of rows bytes) ++ drop (length (bytes_of (fields_of rows bytes))) bytes ≡ bytes
bytes_first [] bytes = refl
bytes_first (row ∷ rows) bytes = grind (arith, bytes_first rows, take-append-drop, append_assoc, drop-append-add, length-append)

-- each of the fields has a width of its kind
width_of : (fields : List Field) (index : ℕ) (field : Field) → All HasWidthOfKind fields → slice_get fields index ≡ Some field
    → HasWidthOfKind field
width_of fields index field wide is = grind (arith, slice_get_cases, wide index field)

-- what is shown at an index is the field of the row with this index
stands : (is_reply : Bool) (command n : ℕ) (bytes before : List ℕ) (code status : ℕ) (old new : List HartField)
    (reading : HartReading) (index : ℕ) (shown : HartField)
    → All HasWidthOfKind (fields_of (rows_for is_reply command) (take n bytes))
    → IsShown (length before) (rows_for is_reply command) (take n bytes) code status old new reading
    → index < reading.count → slice_get new index ≡ Some shown
    → StandsAt is_reply command (length before) (fields_of (rows_for is_reply command) (take n bytes)) (before ++ bytes) index shown
stands is_reply command n bytes before code status old new reading index shown wide from within got =
    let rows = rows_for is_reply command in
    let fields = fields_of rows (take n bytes) in
    let (field, is_field, start, len, kind, parts) = field_of (length before) fields old index shown (grind arith) (grind arith) in
    let (row, is_row, words, kinds) = row_of rows (take n bytes) index field (cc) in
    let width : HasWidthOfKind field = width_of fields index field wide is_field in
    let front = before ++ bytes_of (take index fields) in
    let more = bytes_of (drop (suc index) fields) ++ (drop (length (bytes_of fields)) (take n bytes) ++ drop n bytes) in
    let split : before ++ bytes ≡ front ++ (field.bytes ++ more) =
    grind (arith, bytes_first rows (take n bytes), take-append-drop n bytes, append_assoc) in
    grind (arith, common_steps, length-append, drop-append_seam, take-append_seam)

-- what is shown at an index for a request is the field of the row with this index
of_reading : (command index : ℕ) (bytes : List ℕ) (read : Reading) (old new : List HartField) (reading : HartReading) (shown : HartField)
    → request_reading command bytes ≡ read → RequestOutcome command bytes old new reading → index < reading.count
    → slice_get new index ≡ Some shown
    → StandsAt false command 0 (fields_of (request_rows command) (take reading.taken bytes)) bytes index shown
of_reading command index bytes (Ok request) old new reading shown read told within got =
    let n = length (request_data request) in
    let is : IsShown 0 (request_rows command) (take n bytes) 0 0 old new reading = rw read at told in
    let same : take reading.taken bytes ≡ take n bytes = grind (arith, is.told, length-take n bytes, take_min n bytes) in
    rw same (stands false command n bytes [] _ _ _ _ _ _ _ (fields_have_the_width_of_their_kind-request command _) is within got)
of_reading command index bytes (Err code) old new reading shown read told within got =
    let is : IsShown 0 [] [] code 0 old new reading = rw read at told in absurd (grind (arith, is.told))

pub returns-clause-requests : goal.returns-clause-requests
returns-clause-requests c command index bytes old new reading shown =
    of_reading command index bytes (request_reading command bytes) old new reading shown refl

pub returns-clause-replies : goal.returns-clause-replies
returns-clause-replies c command index (code ∷ status ∷ bytes) old new reading shown reply read outcome within got =
    let n = length (content_bytes reply.content) in
    let kept : content_bytes reply.content ≡ take n bytes =
    grind (arith, written_payloads_are_read_again-kept command (code ∷ status ∷ bytes) reply read) in
    let is : IsShown 2 (rows_for true command) (take n bytes) reply.code reply.status.0 old new reading = rw kept at (rw read at outcome) in
    let wide = fields_have_the_width_of_their_kind-reply command (code ∷ status ∷ bytes) reply read in
    rw kept (stands true command n bytes (code ∷ status ∷ []) _ _ _ _ _ _ _ wide is within got)
returns-clause-replies c command index payload old new reading shown reply read outcome within got = cc
