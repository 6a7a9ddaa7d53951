-- A reply that is read from a payload is written as the first bytes of that payload, and read back. The fields of its data are the
-- parts of its content.
use Rattle.std.proofs.Common.{◌≡◌, ◌≢◌, ℕ, ◌-◌, ◌/◌, zero, suc, ◌+◌, ◌*◌, ◌<◌, ◌≤◌, List, [], ◌∷◌, take, drop, length, map, Option, Some}
use Rattle.std.proofs.Common.{None, IfSome, refl, ap}
use Rattle.std.proofs.Common.{arith, true, ltb, eqb, sym, length-take, slice_index}
use Rattle.std.proofs.lemmas.Bool.Decides.{nat_tests}
use Rattle.std.proofs.lemmas.Grind.{common_steps}
use Rattle.std.proofs.lemmas.List.{take_all}
use Rattle.std.specs.List.{AllByRecursion}
use Rattle.std.specs.Option.{option_map}
use Rattle.std.specs.Prelude.{if◌then◌else◌, is_some}
use Rattle.std.specs.Simd.{first_chunks}
use Rattle.hart_commands.specs.Commands.{CommandRow, command_row, commands, known, replied, reply_rows}
use Rattle.hart_commands.specs.Fields.{field_bytes, fields_of}
use Rattle.hart_commands.specs.FirstBytes.{having}
use Rattle.hart_commands.specs.Groups.{identity_of}
use Rattle.hart_commands.specs.Parts.{content_parts}
use Rattle.hart_commands.specs.ReplyData.{IsReply, content_by, content_bytes, reply_reading, reply_payload}
use Rattle.hart_commands.specs.ReplyReading.{identity_reading, dynamic_reading, variables_reading, more_reading}
use Rattle.hart_commands.specs.Values.{float_at, unit_value_of}
use Rattle.hart_commands.specs.declared.content.ReplyContent.{ReplyContent}
use Rattle.hart_commands.specs.declared.content.ReplyContent.TheVariants.{Identity, Dynamic, More, Refused}
use Rattle.hart_commands.specs.declared.fields.FieldKind.TheVariants.{Bytes}
use Rattle.hart_commands.specs.declared.reply.Reply.{Reply}
use Rattle.hart_commands.proofs.lemmas.Parts.{spell, spelled, spelled_front, by_spelling}
use Rattle.hart_commands.proofs.lemmas.Request.{all_left}
use Rattle.hart_commands.proofs.lemmas.Rows.{by_row}
use Rattle.hart_commands.specs.Fields as fields

-- the fields of a content of a command are the parts of the content
abbrev pub IsParted : ℕ → ReplyContent → Type 0
IsParted command content = field_bytes (fields_of (reply_rows command) (content_bytes content)) ≡ content_parts content

-- a content that was read from bytes is kept: it is written as a prefix of these bytes, is read back, and its fields are its parts
abbrev pub IsKept : ℕ → (List ℕ → Option ReplyContent) → List ℕ → ReplyContent → Type 0
IsKept command read bytes content =
    (content_bytes content ≡ take (length (content_bytes content)) bytes) × (read (content_bytes content) ≡ Some content)
    × IsParted command content

abbrev pub Keeps : ℕ → (List ℕ → Option ReplyContent) → Type 0
Keeps command read = (bytes : List ℕ) → IfSome (read bytes) (IsKept command read bytes)

-- to show that a reading of `size` bytes keeps every content, it is enough to show it for bytes that `spell` writes one by one
said : (command size : ℕ) (read : List ℕ → Option ReplyContent)
    → ((xs : List ℕ) → IfSome (read (spell size xs)) (λ content. (content_bytes content ≡ spell size xs) × IsParted command content))
    → Keeps command (having size None read)
said command size read each bytes =
    let whole = by_spelling size (λ xs. IfSome (read xs) (λ content. (content_bytes content ≡ xs) × IsParted command content))
    each (take size bytes) in grind (arith, common_steps, nat_tests)

identity : (command : ℕ) → reply_rows command ≡ fields.identity → Keeps command identity_reading
identity command same =
    said command 22 (λ xs. if eqb (slice_index xs 0) 254 then Some (Identity (identity_of xs)) else None) (λ xs. grind (arith, nat_tests))

-- a loop current and one to four variables are kept, whatever follows them
in_groups : (groups : ℕ) → 0 < groups → groups ≤ 4 → (bytes : List ℕ) → 4 + groups * 5 ≤ length bytes
    → IsKept 3 dynamic_reading bytes (Dynamic (float_at bytes 0) (map unit_value_of (first_chunks 5 groups (drop 4 bytes))))
unfolding known
in_groups (suc zero) some few bytes long = rw (← spelled_front 9 bytes long) (refl, refl, refl)
in_groups (suc (suc zero)) some few bytes long = rw (← spelled_front 14 bytes long) (refl, refl, refl)
in_groups (suc (suc (suc zero))) some few bytes long = rw (← spelled_front 19 bytes long) (refl, refl, refl)
in_groups (suc (suc (suc (suc zero)))) some few bytes long = rw (← spelled_front 24 bytes long) (refl, refl, refl)
in_groups _ some few bytes long = absurd (omega arith)

dynamic : Keeps 3 dynamic_reading
dynamic bytes = grind (arith, common_steps, nat_tests, in_groups)

-- a device status, one to eight variables and a time stamp are kept, if no other bytes follow
in_variables : (groups : ℕ) → 0 < groups → groups < 9 → (bytes : List ℕ) → length bytes ≡ 5 + 8 * groups
    → IfSome (variables_reading bytes) (λ content. (content_bytes content ≡ bytes) × IsKept 9 variables_reading bytes content)
unfolding known
in_variables (suc zero) _ _ bytes long = rw (← spelled 13 bytes long) (refl, (refl, refl, refl))
in_variables (suc (suc zero)) _ _ bytes long = rw (← spelled 21 bytes long) (refl, (refl, refl, refl))
in_variables (suc (suc (suc zero))) _ _ bytes long = rw (← spelled 29 bytes long) (refl, (refl, refl, refl))
in_variables (suc (suc (suc (suc zero)))) _ _ bytes long = rw (← spelled 37 bytes long) (refl, (refl, refl, refl))
in_variables (suc (suc (suc (suc (suc zero))))) _ _ bytes long = rw (← spelled 45 bytes long) (refl, (refl, refl, refl))
in_variables (suc (suc (suc (suc (suc (suc zero)))))) _ _ bytes long = rw (← spelled 53 bytes long) (refl, (refl, refl, refl))
in_variables (suc (suc (suc (suc (suc (suc (suc zero))))))) _ _ bytes long = rw (← spelled 61 bytes long) (refl, (refl, refl, refl))
in_variables (suc (suc (suc (suc (suc (suc (suc (suc zero)))))))) _ _ bytes long = rw (← spelled 69 bytes long) (refl, (refl, refl, refl))
in_variables _ some few bytes long = absurd (omega arith)

variables : Keeps 9 variables_reading
variables bytes = grind (arith, common_steps, nat_tests, in_variables ((length bytes - 5) / 8))

-- bytes that are read as `n` device variables, one to eight, have the length 5 + 8 n
variables_sized : (bytes : List ℕ) (content : ReplyContent) → variables_reading bytes ≡ Some content
    → (0 < (length bytes - 5) / 8) × ((length bytes - 5) / 8 < 9) × (length bytes ≡ 5 + 8 * ((length bytes - 5) / 8))
variables_sized bytes content e = grind (arith, nat_tests)

-- device variables are written as all of the bytes that they were read from
pub variables_whole : (bytes : List ℕ) (content : ReplyContent) → variables_reading bytes ≡ Some content
    → (content_bytes content ≡ bytes) × ((groups : ℕ) × (0 < groups) × (groups ≤ 8) × (length bytes ≡ 5 + 8 * groups))
variables_whole bytes content e =
    let groups = (length bytes - 5) / 8 in
    let (some, few, long) = variables_sized bytes content e in
    let is = rw e at (in_variables groups some few bytes long) in
    (is.0, (groups, some, omega arith, long))

-- if taking `n` bytes of a list yields only `m` bytes, these are the first `m` bytes of the list
front : (n : ℕ) (xs : List ℕ) → take n xs ≡ take (length (take n xs)) xs
front n xs = grind (arith, common_steps)

more : Keeps 48 more_reading
unfolding known
more [] = tt
more (byte ∷ bytes) = (
  front 25 (byte ∷ bytes),
  ap (λ xs. Some (More (byte ∷ xs))) (take_all 24 (take 24 bytes) (omega (arith, length-take 24 bytes))),
  all_left "additional_status" Bytes (take 25 (byte ∷ bytes)) (omega arith),
)

-- whether a row of the table keeps what it reads from replies
abbrev pub KeepsOwn : CommandRow → Type 0
KeepsOwn row = Keeps row.command.number (replied row.command.reply row.replied) × IsParted row.command.number Refused

own : AllByRecursion KeepsOwn commands
unfolding known replied
own = search (identity, dynamic, variables, more, said)

-- the reply that a row of the table reads from a payload, if any; the reply may be a refusal
abbrev pub reply_by : Option CommandRow → ℕ → List ℕ → Option Reply
reply_by row command (code ∷ status ∷ bytes) =
    let saying : ReplyContent → Reply =
    λ content. record { command = command; code = code; status = record { 0 = status }; content = content } in
    if ltb 127 code then None
    else if eqb code 0 then option_map saying (content_by row bytes)
    else if is_some row then Some (saying Refused)
    else None
reply_by row command _ = None

-- what is known of a reply that was read from a payload
pub record IsReplyKept (command : ℕ) (row : Option CommandRow) (payload : List ℕ) (reply : Reply) : Type 0 where
  pub own : reply.command ≡ command
  pub written : reply_payload reply ≡ take (length (reply_payload reply)) payload
  pub again : reply_by row command (reply_payload reply) ≡ Some reply
  pub known : (is_some row ≡ true) × (reply.code < 128)
  pub refused : reply.code ≢ 0 → reply.content ≡ Refused
  pub parted : IsParted command reply.content

pub kept : (command : ℕ) (payload : List ℕ) (reply : Reply) → reply_reading command payload ≡ Some reply
    → IsReplyKept command (command_row command) payload reply
kept command payload reply = by_row KeepsOwn (λ row. reply_by row command payload ≡ Some reply → IsReplyKept command row payload reply)
    commands command own (grind arith) (λ row same keeps. rw (← same) (grind (arith, common_steps, nat_tests, keeps)))

pub parts_of_reply : (reply : Reply) → IsReply reply → IsParted reply.command reply.content
parts_of_reply reply is = (kept reply.command is.0 reply is.1).parted

-- a reply that was read is well made
pub read-made : (command : ℕ) (payload : List ℕ) (reply : Reply) → reply_reading command payload ≡ Some reply
    → IsReply reply × (reply.command ≡ command)
read-made command payload reply e = let own = (kept command payload reply e).own in ((payload, cc), own)

pub result_made : (command : ℕ) (payload : List ℕ) (result : Option Reply) → result ≡ reply_reading command payload → IfSome result IsReply
result_made command payload None e = tt
result_made command payload (Some reply) e = (read-made command payload reply (sym e)).0
