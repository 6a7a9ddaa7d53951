-- Readings of at most 255 bytes: how many fields they have, and of which bytes and numbers they are made.
use Rattle.std.proofs.Common.{◌≡◌, ◌≤◌, ◌<◌, ◌+◌, ◌^◌, ◌==◌, ℕ, zero, suc, Bool, true, List, [], ◌∷◌, Option, None, Some, IfSome}
use Rattle.std.proofs.Common.{arith, drop, length, nat_lt, refl, take}
use Rattle.std.proofs.lemmas.Bool.Decides.{nat_tests}
use Rattle.std.proofs.lemmas.Grind.{common_steps}
use Rattle.std.proofs.lemmas.List.{get_or-drop, length-drop, length-take}
use Rattle.std.specs.Option.{option_map}
use Rattle.std.specs.Prelude.{false, if◌then◌else◌, is_some}
use Rattle.hex.specs.Hex.{IsBytes}
use Rattle.hart_commands.specs.Commands.{command_name, is_known, reply_rows, request_rows}
use Rattle.hart_commands.specs.Fields.{Row, bytes_of, fields_of}
use Rattle.hart_commands.specs.RequestData.{needed_data}
use Rattle.hart_commands.specs.WellMade.{are_well_made}
use Rattle.hart_commands.proofs.lemmas.WellMade.{the_table_is_well_made-names, the_table_is_well_made-needed}
use Rattle.hart_explain.proofs.lemmas.Rows.{rows-fit}
use Rattle.hart_commands.specs.Parts.{content_bytes}
use Rattle.hart_commands.specs.ReplyData.{content_reading, reply_reading}
use Rattle.hart_commands.specs.declared.content.ReplyContent.{ReplyContent}
use Rattle.hart_commands.specs.declared.content.ReplyContent.TheVariants.{Refused as no_content}
use Rattle.hart_commands.specs.declared.reply.Reply.{Reply}
use Rattle.hart_explain.specs.Reading.{Reading, not_read, nothing_found, reading_of_reply, refused, refused_request, replied, taken}
use Rattle.hart_explain.specs.declared.reading.Problem.{Problem}
use Rattle.hart_explain.specs.declared.reading.Problem.TheVariants.{NoReply, NotRead, Refused, TooFew, UnknownCommand}

-- parts of a list of bytes are lists of bytes too
pub take_bytes : (n : ℕ) (bytes : List ℕ) → IsBytes bytes → IsBytes (take n bytes)
take_bytes zero bytes are i = omega arith
take_bytes (suc n) [] are i = are i
take_bytes (suc n) (byte ∷ bytes) are zero = are 0
take_bytes (suc n) (byte ∷ bytes) are (suc i) = take_bytes n bytes (λ k. are (suc k)) i

pub drop_bytes : (n : ℕ) (bytes : List ℕ) → IsBytes bytes → IsBytes (drop n bytes)
drop_bytes n bytes are i = grind (arith, get_or-drop n bytes i 0, are (n + i))

pub command_name-short : (command : ℕ) → IfSome (command_name command) (λ name. length name ≤ 64)
command_name-short command = grind (arith, common_steps, nat_tests, the_table_is_well_made-names command)

-- the numbers of a problem are in the range of their type
abbrev pub InRange : Problem → Type 0
InRange (TooFew needed) = needed < 2 ^ 64
InRange (Refused code) = code < 256
InRange (NotRead code) = code < 256
InRange _ = Unit {0}

-- a reading of at most 255 bytes: its fields and its ignored bytes are bytes, and its rows fit
pub record IsBounded (reading : Reading) : Type 0 where
  pub rows : List Row
  pub part : List ℕ
  pub found : reading.fields ≡ fields_of rows part
  pub rows_fit : are_well_made rows ≡ true
  pub part_bytes : IsBytes part
  pub part_len : length part ≤ 255
  pub ignored_bytes : IsBytes reading.ignored
  pub ignored_len : length reading.ignored ≤ 255
  pub range : IfSome reading.problem InRange

-- the lemmas below show that each reading of at most 255 bytes is bounded
no_bytes : IsBytes []
no_bytes i = omega arith

nothing-bounded : (problem : Option Problem) → IfSome problem InRange → IsBounded (nothing_found problem)
nothing-bounded problem range = record {
  rows = [];
  part = [];
  found = refl;
  rows_fit = refl;
  part_bytes = no_bytes;
  part_len = omega arith;
  ignored_bytes = no_bytes;
  ignored_len = omega arith;
  range = range;
}

pub taken-bounded : (rows : List Row) (count : ℕ) (bytes : List ℕ) → are_well_made rows ≡ true → IsBytes bytes → length bytes ≤ 255
    → IsBounded (taken rows count bytes)
taken-bounded rows count bytes fit are few = record {
  rows = rows;
  part = take count bytes;
  found = refl;
  rows_fit = fit;
  part_bytes = take_bytes count bytes are;
  part_len = grind (arith, length-take count bytes);
  ignored_bytes = drop_bytes count bytes are;
  ignored_len = grind (arith, length-drop count bytes);
  range = tt;
}

refused-bounded : (rows : List Row) (code : ℕ) (bytes : List ℕ) → are_well_made rows ≡ true → IsBytes bytes → length bytes ≤ 255
    → code < 256 → IsBounded (refused rows code bytes)
refused-bounded rows code bytes fit are few small = record {
  rows = rows;
  part = bytes;
  found = refl;
  rows_fit = fit;
  part_bytes = are;
  part_len = few;
  ignored_bytes = drop_bytes (length (bytes_of (fields_of rows bytes))) bytes are;
  ignored_len = grind (arith, length-drop (length (bytes_of (fields_of rows bytes))) bytes);
  range = small;
}

-- if two readings are bounded, so is the one that a test chooses
one-bounded : (test : Bool) (one other : Reading) → IsBounded one → IsBounded other → IsBounded (if test then one else other)
one-bounded true one other is are = is
one-bounded false one other is are = are

pub refused-bounded-by : (command code : ℕ) (bytes : List ℕ) → IsBytes bytes → length bytes ≤ 255 → code < 256
    → IsBounded (refused_request command code bytes)
refused-bounded-by command code bytes are few small =
    let few_needed : needed_data command < 2 ^ 64 = omega (arith, the_table_is_well_made-needed command) in
    one-bounded (code == 64) _ _ (nothing-bounded (Some UnknownCommand) tt)
    (one-bounded (code == 5) _ _ (nothing-bounded (Some (TooFew (needed_data command))) few_needed)
    (refused-bounded (request_rows command) code bytes (rows-fit command).0 are few small))

-- the reading of data that are no reply is bounded
no-reply-bounded : (command : ℕ) (test : Bool) → IsBounded (nothing_found (Some (if test then NoReply else UnknownCommand)))
no-reply-bounded command true = nothing-bounded (Some NoReply) tt
no-reply-bounded command false = nothing-bounded (Some UnknownCommand) tt

not-read-bounded : (code : ℕ) (bytes : List ℕ) → code < 256 → IsBounded (not_read code bytes)
not-read-bounded code [] small = nothing-bounded None tt
not-read-bounded code (byte ∷ bytes) small = nothing-bounded (Some (NotRead code)) small

replied-bounded : (command : ℕ) (bytes : List ℕ) (reply : Option Reply) → IsBytes bytes → length bytes ≤ 255
    → IfSome reply (λ reply. reply.code < 256) → IsBounded (replied command bytes reply)
replied-bounded command bytes None are few small = no-reply-bounded command (is_some (command_name command))
replied-bounded command bytes (Some reply) are few small =
    one-bounded (reply.code == 0) _ _
    (taken-bounded (reply_rows command) (length (content_bytes reply.content)) bytes (rows-fit command).1 are few)
    (not-read-bounded reply.code bytes small)

-- the code of a reply that is read is below 256
one-code : (faulty good known : Bool) (content : Option ReplyContent) (say : ReplyContent → Reply)
    → ((content : ReplyContent) → (say content).code < 256)
    → IfSome (if faulty then None else if good then option_map say content else if known then Some (say no_content) else None)
    (λ reply. reply.code < 256)
one-code true good known content say small = tt
one-code false true known None say small = tt
one-code false true known (Some content) say small = small content
one-code false false true content say small = small no_content
one-code false false false content say small = tt

code-is : (command first second : ℕ) (bytes : List ℕ) → first < 256
    → IfSome (reply_reading command (first ∷ second ∷ bytes)) (λ reply. reply.code < 256)
code-is command first second bytes small =
    one-code (nat_lt 127 first) (first == 0) (is_known command) (content_reading command bytes)
    (λ content. record { command = command; code = first; status = record { 0 = second }; content = content }) (λ content. small)

-- a reading that ignores all bytes is bounded
ignoring-bounded : (bytes : List ℕ) → IsBytes bytes → length bytes ≤ 255
    → IsBounded (record { fields = []; ignored = bytes; problem = None })
ignoring-bounded bytes are few = record {
  rows = [];
  part = [];
  found = refl;
  rows_fit = refl;
  part_bytes = no_bytes;
  part_len = omega arith;
  ignored_bytes = are;
  ignored_len = few;
  range = tt;
}

pub reply-bounded : (command : ℕ) (payload : List ℕ) → IsBytes payload → length payload ≤ 255
    → IsBounded (reading_of_reply command payload)
unfolding reading_of_reply
reply-bounded command (first ∷ second ∷ bytes) are few =
    let rest : IsBytes bytes = λ i. are (suc (suc i)) in
    let less : length bytes ≤ 255 = omega (arith, few) in
    let read = reply_reading command (first ∷ second ∷ bytes) in
    one-bounded (nat_lt 127 first) _ _ (ignoring-bounded bytes rest less)
    (replied-bounded command bytes read rest less (code-is command first second bytes (are 0)))
reply-bounded command [] are few = nothing-bounded None tt
reply-bounded command (first ∷ []) are few = nothing-bounded None tt
