-- How the payload of a reply is read, and how a reply is written (HCF_SPEC-127).
use Rattle.std.specs.Prelude.{ℕ, ◌≡◌, ◌==◌, nat_lt, if◌then◌else◌, List, ◌∷◌, Option, Some, None}
use Rattle.std.specs.Option.{option_map}
use Rattle.hart_commands.specs.declared.content.ReplyContent.{ReplyContent}
use Rattle.hart_commands.specs.declared.content.ReplyContent.TheVariants.{Refused}
use Rattle.hart_commands.specs.declared.reply.Reply.{Reply}
use Rattle.hart_commands.specs.Commands.{CommandRow, replied, command_row, is_known}
pub use Rattle.hart_commands.specs.Parts.{content_bytes}

-- The content of the data of a reply with code 0, read as this row of the table says. Without a row, there is no content.
abbrev pub content_by : Option CommandRow → List ℕ → Option ReplyContent
content_by None bytes = None
content_by (Some row) bytes = replied row.command.reply row.replied bytes

-- The content of the data of a reply with code 0, read as the row of the command says.
abbrev pub content_reading : ℕ → List ℕ → Option ReplyContent
content_reading command = content_by (command_row command)

-- A payload is read as a reply to a known command if it has at least two bytes and its first byte, the response code, is below 128. With
-- code 0, the data must also hold a content. With any other code, the request was refused, and the data are ignored.
abbrev pub reply_reading : ℕ → List ℕ → Option Reply
reply_reading command (code ∷ status ∷ bytes) =
    let saying : ReplyContent → Reply =
    λ content. record { command = command; code = code; status = record { 0 = status }; content = content } in
    if nat_lt 127 code then None
    else if code == 0 then option_map saying (content_reading command bytes)
    else if is_known command then Some (saying Refused)
    else None
reply_reading command _ = None

-- The payload of a reply is its response code, its device status and the data of its content.
abbrev pub reply_payload : Reply → List ℕ
reply_payload reply = reply.code ∷ reply.status.0 ∷ content_bytes reply.content

-- A reply is well made if some payload is read as that reply. Thus only the table of commands states the allowed sizes and codes.
abbrev pub IsReply : Reply → Type 0
IsReply reply = (payload : List ℕ) × (reply_reading reply.command payload ≡ Some reply)
