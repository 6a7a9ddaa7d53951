-- The written data of a request are read back as the same request, and the fields of its data are its parts.
use Rattle.std.proofs.Common.{◌≡◌, ℕ, ◌≤◌, ◌⊎◌, inl, inr, List, [], ◌∷◌, ◌++◌, take, length, Ok, ap, arith, true, length-append, append-nil}
use Rattle.std.proofs.Common.{◌<◌, refl}
use Rattle.std.proofs.lemmas.Bool.Decides.{nat_tests}
use Rattle.std.proofs.lemmas.Grind.{common_steps}
use Rattle.std.proofs.lemmas.List.{take_at, take_all}
use Prim.Native.String.{String}
use Rattle.hart_values.proofs.lemmas.Laws.{dates_are_decided-date}
use Rattle.hart_values.specs.hart_date.Calendar.{is_date}
use Rattle.hart_commands.proofs.lemmas.Parts.{spelled, whole}
use Rattle.hart_commands.specs.Commands.{command_of, known, request_rows}
use Rattle.hart_commands.specs.Fields.{field, field_bytes, fields_of}
use Rattle.hart_commands.specs.Parts.{request_data, request_parts}
use Rattle.hart_commands.specs.RequestData.{IsRequest, MayFollow, request_reading}
use Rattle.hart_commands.specs.RequestReading.{needing, tag_reading}
use Rattle.hart_commands.specs.declared.fields.FieldKind.{FieldKind}
use Rattle.hart_commands.specs.declared.fields.FieldKind.TheVariants.{Bytes}
use Rattle.hart_commands.specs.declared.fields.FieldSize.TheVariants.{AllBut}
use Rattle.hart_commands.specs.declared.request.Request.{Request}
use Rattle.hart_commands.specs.declared.request.Request.TheVariants.{SetPolling, ReadVariables, ResetChanged, WriteTag}

-- if the first `size` bytes are all that a request needs, the request is read from them, whatever bytes follow
needing-append : (size : ℕ) (asked : List ℕ → Request) (bytes rest : List ℕ) → length bytes ≡ size
    → needing size asked (bytes ++ rest) ≡ Ok (asked bytes)
needing-append size asked bytes rest long = grind (arith, common_steps, nat_tests, length-append, take_at)

-- exactly the codes are taken if there are eight of them, or if there are fewer and no bytes follow
take-codes : (codes rest : List ℕ) → length codes ≤ 8 → (length codes ≡ 8) ⊎ (rest ≡ []) → take 8 (codes ++ rest) ≡ codes
take-codes codes rest few (inl eight) = take_at codes rest 8 eight
take-codes codes rest few (inr none) = rw (none, append-nil) (take_all 8 codes few)

-- a good date is read with its tag and descriptor
tag_reading-good : (tag descriptor date rest : List ℕ) → length tag ≡ 6 → length descriptor ≡ 12 → length date ≡ 3 → is_date date ≡ true
    → tag_reading ((tag ++ (descriptor ++ date)) ++ rest) ≡ Ok (WriteTag tag descriptor date)
tag_reading-good tag descriptor date rest six twelve three =
    rw (← spelled 6 tag six, ← spelled 12 descriptor twelve, ← spelled 3 date three) (λ good. grind (arith, nat_tests, good))

pub written_is_read : (request : Request) (rest : List ℕ) → IsRequest request → MayFollow request rest
    → request_reading (command_of request) (request_data request ++ rest) ≡ Ok request
written_is_read (SetPolling address mode) rest is may = grind (arith, nat_tests)
written_is_read (ReadVariables []) rest is may = absurd (omega (arith, is.0))
written_is_read (ReadVariables (code ∷ codes)) rest is may = ap (λ xs. Ok (ReadVariables xs)) (take-codes (code ∷ codes) rest is.1 may)
written_is_read (WriteTag tag descriptor date) rest is may = grind (arith, common_steps, tag_reading-good, dates_are_decided-date)
written_is_read (ResetChanged counter) rest is may = grind arith
written_is_read _ rest is may = search needing-append

-- the data of a request are read as this request if nothing follows
pub written_is_own : (request : Request) → IsRequest request
    → request_reading (command_of request) (request_data request) ≡ Ok request
written_is_own request is =
    rw append-nil at (written_is_read request [] is (grind arith))

-- a row that takes all remaining bytes has a field of these bytes
pub all_left : (name : String) (kind : FieldKind) (bytes : List ℕ) → 0 < length bytes
    → field_bytes (fields_of (field name (AllBut 0) kind ∷ []) bytes) ≡ bytes ∷ []
all_left name kind bytes some = grind (arith, common_steps, nat_tests, take_all)

pub parts_of_request : (request : Request) → IsRequest request
    → field_bytes (fields_of (request_rows (command_of request)) (request_data request)) ≡ request_parts request
unfolding known
parts_of_request (ReadVariables list) is = all_left "device_variable_codes" Bytes list is.0
parts_of_request (WriteTag tag descriptor date) is = rw (← spelled 6 tag is.0, ← spelled 12 descriptor is.1, ← spelled 3 date is.2.0) refl
parts_of_request (ResetChanged counter) is = grind arith
parts_of_request _ is = search (whole, is)
