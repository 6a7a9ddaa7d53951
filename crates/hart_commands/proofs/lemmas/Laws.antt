-- The laws of requests, of replies, of fields, of registers and of overwrites, for the proofs of this crate and of the crates above
-- it.
use Rattle.std.proofs.Common.{arith, ◌≡◌, ◌≢◌, ◌==◌, ◌||◌, false, ℕ, AllPairs, Contains, IsSome, IsTrue, List, [], ◌∷◌, ◌++◌, refl}
use Rattle.std.proofs.Common.{None, Ok, Some, ap, append-nil, length, lit<, rules, slice_get, take}
use Rattle.std.proofs.lemmas.Grind.{common_steps}
use Rattle.hart_commands.specs.Commands.{reply_rows, request_rows, written_by}
use Rattle.hart_commands.specs.Fields.{Field, bytes_of, field_bytes, fields_of}
use Rattle.hart_commands.specs.Registers.{AreValid, Contents, named_in, overwrite_of, overwritten, place_of, registers, set_by}
use Rattle.hart_commands.specs.ReplyData.{IsReply, content_bytes, reply_payload, reply_reading}
use Rattle.hart_commands.specs.RequestCode.{is_write}
use Rattle.hart_commands.specs.RequestData.{IsRequest, command_of, request_data, request_reading}
use Rattle.hart_commands.specs.Values.{joined, one}
use Rattle.hart_commands.specs.declared.register.Register.{Register}
use Rattle.hart_commands.specs.declared.register.Register.TheVariants.{Polling, Mode, Message, Tag, Descriptor, Date, Assembly, LongTag}
use Rattle.hart_commands.specs.declared.reply.Reply.{Reply}
use Rattle.hart_commands.specs.declared.request.Request.{Request}
use Rattle.hart_commands.specs.declared.request.Request.TheVariants.{SetPolling, WriteMessage, WriteTag, WriteAssembly, WriteLongTag}
use Rattle.hart_values.specs.LoopMode.{mode_byte}
use Rattle.hart_values.specs.declared.loop_mode.LoopMode.{LoopMode}
use Rattle.hart_commands.proofs.lemmas.Reply.{kept, parts_of_reply}
use Rattle.hart_commands.proofs.lemmas.Request.{parts_of_request, written_is_own}
pub use Rattle.hart_commands.proofs.lemmas.FieldWidths.{fields_have_the_width_of_their_kind-reply}
pub use Rattle.hart_commands.proofs.lemmas.FieldWidths.{fields_have_the_width_of_their_kind-request}
pub use Rattle.hart_commands.proofs.lemmas.RequestMade.{requests_have_their_command}

pub all_registers_are_listed_once-every : (register : Register) → Contains registers register
all_registers_are_listed_once-every Polling = (0, lit< tt, refl)
all_registers_are_listed_once-every Mode = (1, lit< tt, refl)
all_registers_are_listed_once-every Message = (2, lit< tt, refl)
all_registers_are_listed_once-every Tag = (3, lit< tt, refl)
all_registers_are_listed_once-every Descriptor = (4, lit< tt, refl)
all_registers_are_listed_once-every Date = (5, lit< tt, refl)
all_registers_are_listed_once-every Assembly = (6, lit< tt, refl)
all_registers_are_listed_once-every LongTag = (7, lit< tt, refl)

pub all_registers_are_listed_once-place : (register : Register) → slice_get registers (place_of register) ≡ Some register
all_registers_are_listed_once-place Polling = refl
all_registers_are_listed_once-place Mode = refl
all_registers_are_listed_once-place Message = refl
all_registers_are_listed_once-place Tag = refl
all_registers_are_listed_once-place Descriptor = refl
all_registers_are_listed_once-place Date = refl
all_registers_are_listed_once-place Assembly = refl
all_registers_are_listed_once-place LongTag = refl

pub all_registers_are_listed_once-once : AllPairs (λ (register other : Register). register ≢ other) registers
all_registers_are_listed_once-once = search rules

-- the bytes of fields are the bytes of each field, one after another
bytes-each : (fields : List Field) → bytes_of fields ≡ joined (field_bytes fields)
bytes-each [] = refl
bytes-each (field ∷ []) = append-nil field.bytes
bytes-each (field ∷ other ∷ fields) = ap (λ xs. field.bytes ++ xs) (bytes-each (other ∷ fields))

pub fields_are_all_of_the_data-request : (request : Request) → IsRequest request
    → bytes_of (fields_of (request_rows (command_of request)) (request_data request)) ≡ request_data request
fields_are_all_of_the_data-request request is = grind (arith, common_steps, bytes-each, parts_of_request)

pub fields_are_all_of_the_data-reply : (reply : Reply) → IsReply reply
    → bytes_of (fields_of (reply_rows reply.command) (content_bytes reply.content)) ≡ content_bytes reply.content
fields_are_all_of_the_data-reply reply is = grind (arith, common_steps, bytes-each, parts_of_reply)

-- the fields of requests and of replies are all of their data
pub ruleset all_of_the_data = (fields_are_all_of_the_data-request, fields_are_all_of_the_data-reply)

pub overwrites_are_valid : (write : Request) (old : Contents) → IsRequest write → AreValid old → AreValid (overwritten write old)
unfolding written_by
overwrites_are_valid write old made valid = search rules

pub written_data_are_their_request : (request : Request) → IsRequest request
    → request_reading (command_of request) (request_data request) ≡ Ok request
written_data_are_their_request = written_is_own

pub written_payloads_are_read_again-kept : (command : ℕ) (payload : List ℕ) (reply : Reply) → reply_reading command payload ≡ Some reply
    → reply_payload reply ≡ take (length (reply_payload reply)) payload
written_payloads_are_read_again-kept command payload reply read = (kept command payload reply read).written

pub writes_have_overwrites-exactly : (request : Request)
    → (IsTrue (is_write (command_of request)) → IsSome (overwrite_of request))
    × (IsSome (overwrite_of request) → IsTrue (is_write (command_of request)))
writes_have_overwrites-exactly request = search rules

-- Each configuration write sets its registers to their bytes, and no other register.
pub writes_set_these_registers-polling : (address : ℕ) (mode : LoopMode) (register : Register) → named_in (SetPolling address mode) register
    ≡ set_by ((Polling, one address) ∷ (Mode, one (mode_byte mode)) ∷ []) register
unfolding written_by
writes_set_these_registers-polling address mode register = search rules

pub writes_set_these_registers-message : (message : List ℕ) (register : Register) → named_in (WriteMessage message) register
    ≡ set_by ((Message, message) ∷ []) register
unfolding written_by
writes_set_these_registers-message message register = search rules

pub writes_set_these_registers-tag : (tag descriptor date : List ℕ) (register : Register)
    → named_in (WriteTag tag descriptor date) register ≡ set_by ((Tag, tag) ∷ (Descriptor, descriptor) ∷ (Date, date) ∷ []) register
unfolding written_by
writes_set_these_registers-tag tag descriptor date register = search rules

pub writes_set_these_registers-assembly : (assembly : List ℕ) (register : Register) → named_in (WriteAssembly assembly) register
    ≡ set_by ((Assembly, assembly) ∷ []) register
unfolding written_by
writes_set_these_registers-assembly assembly register = search rules

pub writes_set_these_registers-long_tag : (long_tag : List ℕ) (register : Register) → named_in (WriteLongTag long_tag) register
    ≡ set_by ((LongTag, long_tag) ∷ []) register
unfolding written_by
writes_set_these_registers-long_tag long_tag register = search rules

-- No other command sets a register.
pub writes_set_these_registers-others : (request : Request) (register : Register) → ((command_of request == 6) || (command_of request == 17)
    || (command_of request == 18) || (command_of request == 19) || (command_of request == 22)) ≡ false → named_in request register ≡ None
unfolding written_by
writes_set_these_registers-others request register other = search rules
