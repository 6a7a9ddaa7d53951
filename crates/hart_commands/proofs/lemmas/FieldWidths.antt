-- Each field of data has a width of its kind: a number of bytes that its kind allows.
use Rattle.std.proofs.Common.{◌≡◌, ℕ, ◌+◌, ◌*◌, ◌<◌, ◌≤◌, ◌⊎◌, inl, inr, List, [], ◌∷◌, All, Option, None, Some, IfSome, take, drop, length}
use Rattle.std.proofs.Common.{arith, length-drop, length-take, lit<, refl, rules}
use Rattle.std.proofs.lemmas.Bool.Decides.{nat_tests}
use Rattle.std.proofs.lemmas.Grind.{common_steps}
use Rattle.std.proofs.lemmas.List.{take_all}
use Rattle.std.proofs.lemmas.List.Elements.{All-cons, All-nil}
use Rattle.std.specs.List.{AllByRecursion}
use Rattle.std.specs.Option.{option_map_or}
use Rattle.hart_commands.specs.Commands.{Command, commands, known, replied, reply_rows, request_rows}
use Rattle.hart_commands.specs.FieldWidths.{HasWidthOfKind, IsWidthOf}
use Rattle.hart_commands.specs.Fields.{Row, field, fields_of, size_in}
use Rattle.hart_commands.specs.Parts.{content_bytes}
use Rattle.hart_commands.specs.ReplyData.{reply_reading}
use Rattle.hart_commands.specs.ReplyReading.{variables_reading}
use Rattle.hart_commands.specs.declared.content.ReplyContent.{ReplyContent}
use Rattle.hart_commands.specs.declared.content.ReplyContent.TheVariants.{Refused}
use Rattle.hart_commands.specs.declared.fields.FieldKind.{FieldKind}
use Rattle.hart_commands.specs.declared.fields.FieldKind.TheVariants.{Bytes, Variables}
use Rattle.hart_commands.specs.declared.fields.FieldSize.{FieldSize}
use Rattle.hart_commands.specs.declared.fields.FieldSize.TheVariants.{AllBut, Exactly}
use Rattle.hart_commands.specs.declared.reply.Reply.{Reply}
use Rattle.hart_commands.proofs.lemmas.Reply.{variables_whole}
use Rattle.hart_commands.proofs.lemmas.Rows.{of_known}
use Rattle.hart_commands.specs.Fields as fields

-- whether each field of this size, in any data, has a width of this kind
abbrev pub Suits : FieldKind → FieldSize → Type 0
Suits kind (Exactly size) = IsWidthOf kind size
Suits Bytes (AllBut after) = Unit {0}
Suits _ (AllBut after) = ⊥

abbrev pub AreSuited : List Row → Type 0
AreSuited these = AllByRecursion (λ row. Suits row.kind row.size) these

-- in these data, the field of each row has a width of its kind
abbrev pub Fit : List Row → List ℕ → Type 0
Fit these bytes = All HasWidthOfKind (fields_of these bytes)

-- fields fit if the field of the first row has a width of its kind, and the fields of the other rows fit in the bytes after it
with_field : (row : Row) (others : List Row) (bytes : List ℕ) (n : ℕ) → size_in row.size (length bytes) ≡ Some n
    → IsWidthOf row.kind (length (take n bytes)) → Fit others (drop n bytes) → Fit (row ∷ others) bytes
with_field row others bytes n size first rest = rw size (All-cons HasWidthOfKind _ _ first rest)

-- if the size of a field suits its kind, the field has a width of this kind
width : (kind : FieldKind) (size : FieldSize) (bytes : List ℕ) (n : ℕ) → Suits kind size → size_in size (length bytes) ≡ Some n
    → IsWidthOf kind (length (take n bytes))
width kind (Exactly size) bytes n suits e = grind (arith, common_steps, nat_tests)
width Bytes (AllBut after) bytes n suits e = grind (arith, common_steps, nat_tests)
width _ (AllBut after) bytes n suits e = absurd suits

-- the fields of rows fit if the size of the first row suits its kind, and the fields of the other rows fit
step : (row : Row) (others : List Row) (bytes : List ℕ) (size : Option ℕ) → size_in row.size (length bytes) ≡ size
    → Suits row.kind row.size → ((rest : List ℕ) → Fit others rest) → Fit (row ∷ others) bytes
step row others bytes None e suits rest = rw e (All-nil HasWidthOfKind)
step row others bytes (Some n) e suits rest =
    with_field row others bytes n e (width row.kind row.size bytes n suits e) (rest (drop n bytes))

widths : (these : List Row) (bytes : List ℕ) → AreSuited these → Fit these bytes
widths [] bytes suited = All-nil HasWidthOfKind
widths (row ∷ others) bytes suited = step row others bytes _ refl suited.0 (λ rest. widths others rest suited.1)

requests_suited : AllByRecursion (λ row. AreSuited row.command.request) commands
requests_suited = search rules

-- whether the size of each reply row suits its kind, or the command is Command 9 and its reply has the fields `variables`
abbrev pub SuitsReplies : Command → Type 0
SuitsReplies command = ((command.number ≡ 9) × (command.reply ≡ fields.variables)) ⊎ AreSuited command.reply

replies_suited : AllByRecursion (λ row. SuitsReplies row.command) commands
replies_suited = search rules

-- the fields of device status, one to eight variables and a time stamp have a width of their kind
of_variables : (groups : ℕ) (bytes : List ℕ) → 0 < groups → groups ≤ 8 → length bytes ≡ 5 + 8 * groups
    → Fit fields.variables bytes
of_variables groups bytes some few long =
    let status = field "extended_device_status" (Exactly 1) Bytes in
    let values = field "device_variables" (AllBut 4) Variables in
    let stamp : List Row = field "time_stamp" (Exactly 4) Bytes ∷ [] in
    with_field status (values ∷ stamp) bytes 1 (grind (arith, nat_tests)) (omega (arith, length-take 1 bytes))
    (with_field values stamp (drop 1 bytes) (8 * groups) (grind (arith, nat_tests, length-drop))
    (groups, some, few, grind (arith, common_steps))
    (widths stamp (drop (8 * groups) (drop 1 bytes)) (lit< tt, tt)))

of_request : (row : Option Command) (command : ℕ) (bytes : List ℕ) → IfSome row (λ row. (row.number ≡ command) × AreSuited row.request)
    → Fit (option_map_or (λ row. row.request) row []) bytes
of_request None command bytes is = All-nil HasWidthOfKind
of_request (Some row) command bytes (same, suited) = widths row.request bytes suited

pub fields_have_the_width_of_their_kind-request : (command : ℕ) (bytes : List ℕ)
    → All HasWidthOfKind (fields_of (request_rows command) bytes)
fields_have_the_width_of_their_kind-request command bytes =
    of_request (known command) command bytes (of_known (λ told. AreSuited told.request) command requests_suited)

-- a reply to Command 9 holds device variables, or is a refusal
said : (code status : ℕ) (bytes : List ℕ) (reply : Reply) → reply_reading 9 (code ∷ status ∷ bytes) ≡ Some reply
    → (reply.content ≡ Refused) ⊎ (variables_reading bytes ≡ Some reply.content)
unfolding replied
said code status bytes reply read = grind (arith, nat_tests)

-- if bytes are read as the content of a reply to Command 9, each field in the bytes of this content has a width of its kind
of_content : (bytes : List ℕ) (content : ReplyContent) → (content ≡ Refused) ⊎ (variables_reading bytes ≡ Some content)
    → Fit fields.variables (take (length (content_bytes content)) bytes)
of_content bytes content (inl refused) = rw refused (All-nil HasWidthOfKind)
of_content bytes content (inr read) =
    let (written, (groups, some, few, long)) = variables_whole bytes content read in
    let all : take (length (content_bytes content)) bytes ≡ bytes = rw written (take_all (length bytes) bytes (omega arith)) in
    rw all (of_variables groups bytes some few long)

of_variables_reply : (payload : List ℕ) (reply : Reply) → reply_reading 9 payload ≡ Some reply
    → Fit fields.variables (take (length (content_bytes reply.content)) (drop 2 payload))
of_variables_reply [] reply read = absurd (cc)
of_variables_reply (code ∷ []) reply read = absurd (cc)
of_variables_reply (code ∷ status ∷ bytes) reply read = of_content bytes reply.content (said code status bytes reply read)

of_reply : (row : Option Command) (command : ℕ) (payload : List ℕ) (reply : Reply) → reply_reading command payload ≡ Some reply
    → IfSome row (λ row. (row.number ≡ command) × SuitsReplies row)
    → Fit (option_map_or (λ row. row.reply) row []) (take (length (content_bytes reply.content)) (drop 2 payload))
of_reply None command payload reply read is = All-nil HasWidthOfKind
of_reply (Some row) command payload reply read (same, inl (nine, own)) =
    rw own (of_variables_reply payload reply (rw (← nine, same) read))
of_reply (Some row) command payload reply read (same, inr suited) = widths row.reply _ suited

pub fields_have_the_width_of_their_kind-reply : (command : ℕ) (payload : List ℕ) (reply : Reply)
    → reply_reading command payload ≡ Some reply
    → All HasWidthOfKind (fields_of (reply_rows command) (take (length (content_bytes reply.content)) (drop 2 payload)))
fields_have_the_width_of_their_kind-reply command payload reply read =
    of_reply (known command) command payload reply read (of_known SuitsReplies command replies_suited)

-- the fields of requests and of replies have the widths of their kinds
pub ruleset widths_of_kinds = (fields_have_the_width_of_their_kind-request, fields_have_the_width_of_their_kind-reply)
