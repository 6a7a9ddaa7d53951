-- The laws of devices, for the proofs of this crate and of the crates above it.
use Rattle.std.proofs.Common.{arith, ◌≡◌, ◌≢◌, refl, rules, false, true, ℕ, List, [], Ok, Some, slice_get}
use Rattle.std.proofs.lemmas.Bool.Decides.{nat_tests}
use Rattle.std.proofs.lemmas.Grind.{common_steps}
use Rattle.hart_frame.specs.wire.FrameParts.{FrameParts, reply_parts}
use Rattle.hart_commands.specs.Registers.{AreValid, Contents, Overwrite, overwrite_of, registers_of}
use Rattle.hart_commands.specs.ReplyData.{IsReply, reply_payload, reply_reading}
use Rattle.hart_commands.specs.RequestData.{is_known}
use Rattle.hart_commands.specs.declared.request.Request.{Request}
use Rattle.hart_device.specs.Device.{DeviceState, Executes, IsDevice, Nothing}
use Rattle.hart_device.specs.Process.{IsProcess}
use Rattle.hart_device.specs.answer.Answer.{answer_of, code_of, effect_of, is_answered, reading_of, reply_of, state_after}
use Rattle.hart_device.specs.declared.process.Process.{Process}
use Rattle.hart_device.specs.Image.{IsImageOf, image_of}
use Rattle.hart_device.proofs.lemmas.answer.Effect.{answered_if, identity_stays, judged_has_code, refused, write_executes}
use Rattle.hart_device.proofs.lemmas.answer.Content.{reply_read}
use Rattle.hart_device.proofs.lemmas.Image.{one_state, written_is}
pub use Rattle.hart_device.proofs.lemmas.answer.Delivery.{deliveries_bring_one-brings, deliveries_bring_one-one}
pub use Rattle.hart_device.proofs.lemmas.answer.Effect.{resets_name_this_counter-only}
pub use Rattle.hart_device.proofs.lemmas.answer.Effect.{writes_execute_their_overwrite-only, writes_execute_their_overwrite-well_made}
pub use Rattle.hart_device.proofs.lemmas.Image.{devices_are_kept_whole-any_cold_start, images_have_no_fault}
pub use Rattle.hart_device.proofs.lemmas.Registers.{registers_of_lists-again, registers_of_lists-first, registers_of_lists-last}

pub answers_are_replies-well_made : (state : DeviceState) (process : Process) (frame : FrameParts) → AreValid state.contents
    → IsProcess process → is_known frame.command ≡ true → IsReply (reply_of state process frame)
answers_are_replies-well_made state process frame valid is known =
    (reply_payload (reply_of state process frame), reply_read state process frame valid is known)

pub answers_are_replies-read : (state : DeviceState) (process : Process) (frame answer : FrameParts) → AreValid state.contents
    → IsProcess process → is_known frame.command ≡ true → answer_of state process frame ≡ Some answer
    → reply_reading frame.command answer.payload ≡ Some (reply_of state process frame)
answers_are_replies-read state process frame answer valid is known answered =
    rw (← (answered_if (is_answered state frame) frame answer (reply_of state process frame) answered).3)
    (reply_read state process frame valid is known)

pub devices_are_kept_whole-image : (state : DeviceState) → IsDevice state → IsImageOf state (image_of state)
devices_are_kept_whole-image state is = written_is state is.contents is.counter

pub devices_are_kept_whole-either_version : (state other : DeviceState) (image : List ℕ) → IsImageOf state image
    → IsImageOf other image → other.identity ≡ state.identity → record other { cold_start = state.cold_start } ≡ state
devices_are_kept_whole-either_version state other image is other_is same =
    one_state _ state image (devices_are_kept_whole-any_cold_start other image state.cold_start other_is) is same refl

pub devices_are_kept_whole-whole : (state other : DeviceState) → IsDevice state → IsImageOf other (image_of state)
    → other.identity ≡ state.identity → record other { cold_start = state.cold_start } ≡ state
devices_are_kept_whole-whole state other is =
    devices_are_kept_whole-either_version state other (image_of state) (devices_are_kept_whole-image state is)

pub registers_of_lists-none : (initial : Contents) → registers_of [] initial ≡ initial
registers_of_lists-none initial = search rules

pub refused_commands_change_nothing-refused : (state : DeviceState) (frame : FrameParts) → code_of state frame ≢ 0
    → effect_of state frame ≡ Nothing
refused_commands_change_nothing-refused state frame = grind (arith, common_steps, refused)

pub refused_commands_change_nothing-silent : (state : DeviceState) (frame : FrameParts) → is_answered state frame ≡ false
    → effect_of state frame ≡ Nothing
refused_commands_change_nothing-silent state frame silent = search rules

pub answers_give_their_code-answered : (state : DeviceState) (process : Process) (frame reply : FrameParts)
    → answer_of state process frame ≡ Some reply
    → (is_answered state frame ≡ true) × (reply ≡ reply_parts frame reply.payload)
    × (slice_get reply.payload 0 ≡ Some (code_of state frame))
answers_give_their_code-answered state process frame reply is =
    let parts = answered_if (is_answered state frame) frame reply (reply_of state process frame) is in
    (parts.0, parts.1, rw (judged_has_code state frame) at parts.2)

pub frames_leave_identity_and_protection-identity : (state : DeviceState) (frame : FrameParts)
    → (state_after state frame).identity ≡ state.identity
frames_leave_identity_and_protection-identity state frame = search identity_stays

pub writes_execute_their_overwrite-executes : (state : DeviceState) (frame : FrameParts) (request : Request) (overwrite : Overwrite)
    → is_answered state frame ≡ true → code_of state frame ≡ 0 → reading_of frame ≡ Ok request
    → overwrite_of request ≡ Some overwrite → effect_of state frame ≡ Executes overwrite
writes_execute_their_overwrite-executes state frame request overwrite answered zero reading is =
    grind (arith, nat_tests, write_executes request overwrite is)

-- For an attribute of code, which cannot name lemmas with a dash.
pub ruleset registers_of_lists = (registers_of_lists-first, registers_of_lists-last, registers_of_lists-again)
