-- What a device answers to a frame, and how the frame changes the device (HCF_SPEC-081, HCF_SPEC-127). Implementation choice: which frames
-- are answered, and the order of refusals.
use Rattle.std.specs.Prelude.{ℕ, ◌==◌, ◌&&◌, ◌||◌, not, if◌then◌else◌, Bool, true, false, length, slice_index}
use Rattle.std.specs.Prelude.{Option, Some, None, Ok, Err}
use Rattle.std.specs.Str.{bytes_eq}
use Rattle.hart_values.specs.address.AddressBytes.{is_broadcast}
use Rattle.hart_values.specs.address.DeviceNumbers.{DeviceNumbers}
use Rattle.hart_values.specs.declared.address.Address.{Address}
use Rattle.hart_values.specs.declared.address.Address.TheVariants.{Polling, Unique}
use Rattle.hart_frame.specs.wire.FrameParts.{FrameParts, reply_parts}
use Rattle.hart_frame.specs.declared.wire.kind.FrameKind.{FrameKind}
use Rattle.hart_frame.specs.declared.wire.kind.FrameKind.TheVariants.{Stx, Ack}
use Rattle.hart_commands.specs.declared.reply.Reply.{Reply}
use Rattle.hart_commands.specs.declared.content.ReplyContent.{ReplyContent}
use Rattle.hart_commands.specs.declared.content.ReplyContent.TheVariants.{Refused}
use Rattle.hart_commands.specs.declared.request.Request.TheVariants.{IdentifyByTag, IdentifyByLongTag, ResetChanged}
use Rattle.hart_commands.specs.Commands.{may_be_broadcast}
use Rattle.hart_commands.specs.Registers.{Overwrite, overwrite_of}
use Rattle.hart_commands.specs.ReplyData.{reply_payload}
use Rattle.hart_commands.specs.RequestCode.{request_code}
use Rattle.hart_commands.specs.RequestData.{Reading, request_reading}
use Rattle.hart_device.specs.declared.process.Process.{Process}
use Rattle.hart_device.specs.answer.Content.{reply_content}
use Rattle.hart_device.specs.Device.{DeviceState, Effect, Nothing, Executes, Resets, after, after_reply}
use Rattle.hart_device.specs.Identity.{own_numbers}
use Rattle.hart_device.specs.answer.Status.{device_status}

-- Whether a frame is a request: an STX is a request, and an ACK is a reply.
abbrev pub is_request : FrameKind → Bool
is_request Stx = true
is_request Ack = false

-- Two unique addresses are the same if both of their numbers are the same.
abbrev pub same_numbers : DeviceNumbers → DeviceNumbers → Bool
same_numbers a b = (a.expanded_type == b.expanded_type) && (a.device_id == b.device_id)

-- Whether the device accepts a command at an address. At its polling address, the device accepts Command 0. At its own unique address, it
-- accepts every command. At the broadcast address, it accepts the commands that may be broadcast.
abbrev pub is_paired : DeviceState → Address → ℕ → Bool
is_paired state (Polling number) command = (command == 0) && (slice_index state.contents.polling 0 == number)
is_paired state (Unique numbers) command =
    same_numbers numbers (own_numbers state.identity) || (may_be_broadcast command && is_broadcast (Unique numbers))

-- A frame is for the device if it is a request without expansion bytes, and the device accepts the frame's command at the frame's address.
-- The burst bit is ignored.
abbrev pub is_addressed : DeviceState → FrameParts → Bool
is_addressed state frame =
    is_request frame.kind && (length frame.expansion == 0) && is_paired state frame.address frame.command

-- The request in the data bytes of a frame, or the code that refuses them.
abbrev pub reading_of : FrameParts → Reading
reading_of frame = request_reading frame.command frame.payload

-- The response code of the request in a frame. It depends on the device's write protection and counter.
abbrev pub code_of : DeviceState → FrameParts → ℕ
code_of state frame = request_code frame.command (reading_of frame) state.protected state.counter

-- Command 11 names another device if its tag differs from the register Tag. Command 21 names another device if its long tag differs from
-- the register LongTag. No other request names another device.
abbrev pub names_another : DeviceState → Reading → Bool
names_another state (Ok (IdentifyByTag tag)) = not (bytes_eq state.contents.tag tag)
names_another state (Ok (IdentifyByLongTag long_tag)) = not (bytes_eq state.contents.long_tag long_tag)
names_another state _ = false

-- A frame is answered if it is for the device and does not name another device by tag or long tag. A broadcast frame is answered only if
-- its code is 0.
abbrev pub is_answered : DeviceState → FrameParts → Bool
is_answered state frame =
    is_addressed state frame && not (names_another state (reading_of frame))
    && not (is_broadcast frame.address && not (code_of state frame == 0))

-- The effect of executing an overwrite, or no effect if there is no overwrite.
abbrev pub executed : Option Overwrite → Effect
executed None = Nothing
executed (Some overwrite) = Executes overwrite

-- The effect of a request with code 0: Command 38 resets the configuration-changed bit, a configuration write executes its overwrite, and
-- every other request has no effect. Refused data have no effect either.
abbrev pub asked_effect : Reading → Effect
asked_effect (Ok (ResetChanged counter)) = Resets
asked_effect (Ok request) = executed (overwrite_of request)
asked_effect (Err code) = Nothing

-- A frame has an effect only if it is answered and its code is 0.
abbrev pub effect_of : DeviceState → FrameParts → Effect
effect_of state frame =
    if is_answered state frame && (code_of state frame == 0) then asked_effect (reading_of frame) else Nothing

-- The state of the device after the command of a frame. The reply describes this state.
abbrev pub after_command : DeviceState → FrameParts → DeviceState
after_command state frame = after frame.master (effect_of state frame) state

-- If a frame is answered, its command changes the state, and then the reply changes the state. Any other frame leaves the state unchanged.
abbrev pub state_after : DeviceState → FrameParts → DeviceState
state_after state frame = if is_answered state frame then after_reply frame.master (after_command state frame) else state

-- The state after a frame without effect. If the frame is answered, the reply changes the state. Otherwise the state is unchanged.
abbrev pub after_refusal : DeviceState → FrameParts → DeviceState
after_refusal state frame = if is_answered state frame then after_reply frame.master state else state

-- The content of the reply to a frame with this judgement (`judged_of`): the content for the request, or `Refused` if the judgement is a
-- code.
abbrev pub asked_content : DeviceState → Process → Reading → ReplyContent
asked_content state process (Ok request) = reply_content state process request
asked_content state process (Err code) = Refused

-- The judgement of an answered frame: its request if its code is 0, and otherwise its code.
abbrev pub judged_of : DeviceState → FrameParts → Reading
judged_of state frame = if code_of state frame == 0 then reading_of frame else Err (code_of state frame)

-- The code of a frame with this judgement.
abbrev pub judged_code : Reading → ℕ
judged_code (Ok request) = 0
judged_code (Err code) = code

-- The reply to a frame with this judgement, from a device in this state after the command. The reply has the code of the judgement, the
-- device status, and the content for the judgement.
abbrev pub reply_with : DeviceState → Process → FrameParts → Reading → Reply
reply_with state process frame judged = record {
  command = frame.command;
  code = judged_code judged;
  status = record { 0 = device_status state process frame.master };
  content = asked_content state process judged;
}

-- The reply to an answered frame. It follows from the judgement and from the state after the command. The cold start bit is cleared only
-- after the reply is made, so the reply still shows this bit.
abbrev pub reply_of : DeviceState → Process → FrameParts → Reply
reply_of state process frame = reply_with (after_command state frame) process frame (judged_of state frame)

-- The device's answer to a frame: an ACK with the device's reply, or `None` if the frame is not answered.
abbrev pub answer_of : DeviceState → Process → FrameParts → Option FrameParts
answer_of state process frame =
    if is_answered state frame then Some (reply_parts frame (reply_payload (reply_of state process frame))) else None
