-- What a command does to a device. The answer to a command begins with the code of the command.
use Rattle.std.proofs.Common.{◌≡◌, ◌≢◌, ℕ, arith, slice_get, Bool, true, false, ◌==◌, ◌&&◌, if◌then◌else◌, Option, None, Some, IfSome, Ok}
use Rattle.std.proofs.Common.{Err}
use Rattle.std.proofs.lemmas.Bool.Decides.{nat_tests}
use Rattle.hart_values.specs.declared.master_id.MasterId.{MasterId}
use Rattle.hart_frame.specs.wire.FrameParts.{FrameParts, reply_parts}
use Rattle.hart_commands.specs.Commands.{written_by}
use Rattle.hart_commands.specs.Registers.{Overwrite, overwrite_of}
use Rattle.hart_commands.specs.ReplyData.{reply_payload}
use Rattle.hart_commands.specs.RequestCode.{data_code}
use Rattle.hart_commands.specs.RequestData.{IsRequest, Reading}
use Rattle.hart_commands.specs.declared.reply.Reply.{Reply}
use Rattle.hart_commands.specs.declared.request.Request.{Request}
use Rattle.hart_commands.specs.declared.request.Request.TheVariants.{ResetChanged}
use Rattle.hart_commands.proofs.lemmas.Laws.{requests_have_their_command}
use Rattle.hart_device.specs.Device.{DeviceState, Effect, Nothing, Executes, Resets, after, after_reply, written}
use Rattle.hart_device.specs.answer.Answer.{asked_effect, code_of, effect_of, is_answered, judged_code}
use Rattle.hart_device.specs.answer.Answer.{judged_of, reading_of}

pub refused : (answered : Bool) (code : ℕ) (effect : Effect) → code ≢ 0
    → (if answered && (code == 0) then effect else Nothing) ≡ Nothing
refused answered code effect not_zero = grind (arith, nat_tests)

-- A frame without effect changes at most the cold start bit of its master, and only if it is answered.
pub without_effect : (answered : Bool) (master : MasterId) (effect : Effect) (state : DeviceState) → effect ≡ Nothing
    → (if answered then after_reply master (after master effect state) else state)
    ≡ (if answered then after_reply master state else state)
without_effect answered master effect state nothing = grind arith

-- The effect of an answered frame is the effect that its judgement asks for.
pub effect_is_asked : (state : DeviceState) (frame : FrameParts) → is_answered state frame ≡ true
    → effect_of state frame ≡ asked_effect (judged_of state frame)
effect_is_asked state frame answered = grind (arith, nat_tests)

-- A write request executes its overwrite.
pub write_executes : (request : Request) (overwrite : Overwrite) → overwrite_of request ≡ Some overwrite
    → asked_effect (Ok request) ≡ Executes overwrite
unfolding written_by
write_executes request overwrite is = grind arith

-- After a write request was carried out, its overwrite is written.
pub write_is_executed : (master : MasterId) (request overwrite : Request) (state : DeviceState) → Some overwrite ≡ overwrite_of request
    → after master (asked_effect (Ok request)) state ≡ written overwrite state
unfolding written_by
write_is_executed master request overwrite state is = grind arith

-- Only the overwrite of the requested write is executed, and only if the answer has code 0.
executes_if : (reading : Reading) (answered : Bool) (code : ℕ) (overwrite : Overwrite)
    → (if answered && (code == 0) then asked_effect reading else Nothing) ≡ Executes overwrite
    → (answered ≡ true) × (code ≡ 0) × (request : Request) × (reading ≡ Ok request) × (overwrite_of request ≡ Some overwrite)
executes_if reading answered code overwrite is = grind (arith, nat_tests)

resets_if : (reading : Reading) (answered : Bool) (code counter : ℕ) → (code ≡ 0 → data_code reading counter ≡ 0)
    → (if answered && (code == 0) then asked_effect reading else Nothing) ≡ Resets
    → (answered ≡ true) × (code ≡ 0)
    × (named : Option ℕ) × (reading ≡ Ok (ResetChanged named)) × IfSome named (λ n. n ≡ counter)
resets_if reading answered code counter good is = grind (arith, nat_tests)

pub writes_execute_their_overwrite-only : (state : DeviceState) (frame : FrameParts) (overwrite : Overwrite)
    → effect_of state frame ≡ Executes overwrite
    → (is_answered state frame ≡ true) × (code_of state frame ≡ 0)
    × (request : Request) × (reading_of frame ≡ Ok request) × (overwrite_of request ≡ Some overwrite)
writes_execute_their_overwrite-only state frame =
    executes_if (reading_of frame) (is_answered state frame) (code_of state frame)

-- An overwrite that a frame executes is a well-made request.
pub writes_execute_their_overwrite-well_made : (state : DeviceState) (frame : FrameParts) (overwrite : Overwrite)
    → effect_of state frame ≡ Executes overwrite → IsRequest overwrite
writes_execute_their_overwrite-well_made state frame overwrite is =
    let write = writes_execute_their_overwrite-only state frame overwrite is in
    grind (arith, requests_have_their_command)

-- A frame has code 0 only if its data and the counter lead to code 0.
pub code_good : (state : DeviceState) (frame : FrameParts) → code_of state frame ≡ 0 → data_code (reading_of frame) state.counter ≡ 0
code_good state frame is = grind arith

-- The judgement of a frame has the code of the frame.
code_if : (reading : Reading) (counter code : ℕ) → (code ≡ 0 → data_code reading counter ≡ 0)
    → judged_code (if code == 0 then reading else Err code) ≡ code
code_if reading counter code good = grind (arith, nat_tests)

pub judged_has_code : (state : DeviceState) (frame : FrameParts) → judged_code (judged_of state frame) ≡ code_of state frame
judged_has_code state frame = code_if (reading_of frame) state.counter (code_of state frame) (code_good state frame)

pub resets_name_this_counter-only : (state : DeviceState) (frame : FrameParts) → effect_of state frame ≡ Resets
    → (is_answered state frame ≡ true) × (code_of state frame ≡ 0)
    × (counter : Option ℕ) × (reading_of frame ≡ Ok (ResetChanged counter)) × IfSome counter (λ n. n ≡ state.counter)
resets_name_this_counter-only state frame =
    resets_if (reading_of frame) (is_answered state frame) (code_of state frame) state.counter (code_good state frame)

-- No effect changes the identity of a device, or its write protection.
pub identity_stays : (answered : Bool) (master : MasterId) (effect : Effect) (state : DeviceState)
    → (if answered then after_reply master (after master effect state) else state).identity ≡ state.identity
identity_stays answered master effect state = grind arith

pub protection_stays : (answered : Bool) (master : MasterId) (effect : Effect) (state : DeviceState)
    → (if answered then after_reply master (after master effect state) else state).protected ≡ state.protected
protection_stays answered master effect state = grind arith

pub none_if : {A : Type 0} (holds : Bool) (answer : A) → (if holds then Some answer else None) ≡ None → holds ≡ false
none_if holds answer is = grind arith

-- An answer is a reply to its frame, and its payload begins with the code of the answer.
pub answered_if : (holds : Bool) (frame reply : FrameParts) (answer : Reply)
    → (if holds then Some (reply_parts frame (reply_payload answer)) else None) ≡ Some reply
    → (holds ≡ true) × (reply ≡ reply_parts frame reply.payload) × (slice_get reply.payload 0 ≡ Some answer.code)
    × (reply_payload answer ≡ reply.payload)
answered_if holds frame reply answer is = grind arith
