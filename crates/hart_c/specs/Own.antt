-- A device with commands of its maker's own, for a caller in C (implementation choice). A maker's own command is a command that is in no
-- table of this repository.
use Rattle.std.specs.Prelude.{◌≡◌, ◌≤◌, ◌<◌, ◌⊎◌, ◌++◌, ◌==◌, ◌&&◌, ℕ, Bool, IsTrue, true, false, List, [], ◌∷◌, Some, length, map}
use Rattle.std.specs.List.{list_any}
use Rattle.hart_frame.specs.wire.FrameParts.{FrameParts}
use Rattle.hart_frame.specs.heard.Frames.{AreFrames}
use Rattle.hart_device.specs.Device.{DeviceState, after_reply}
use Rattle.hart_device.specs.answer.Own.{after_own, asks_own, own_reply}
use Rattle.hart_device.specs.declared.process.Process.{Process}
use Rattle.hart_c.specs.Device.{HearOutcome, IsHearing, IsKept, IsSaid, device_of, state_checks}
use Rattle.hart_c.specs.Faults.{Check, Outcome, needs, outcome_of, refused_if}
use Rattle.hart_c.specs.Find.{char_of}
use Rattle.hart_c.specs.Messages.{HasNoRoom, IsFrame, IsWritten, frame_checks}
use Rattle.hart_c.specs.Numbers.{HasVariables, IsProcessOf, IsTidy, found_in, frame_in, parts_of}
use Rattle.hart_c.specs.declared.fault.Fault.TheVariants.{BadCode, BadVariables, NoRequest, NoRoom, TooLong}
use Rattle.hart_c.specs.declared.{device.HartDevice.HartDevice, fault.HartOutcome.HartOutcome, find.HartChar.HartChar}
use Rattle.hart_c.specs.declared.{frame.HartFrame.HartFrame, identity.HartIdentity.HartIdentity, own.HartHearing.HartHearing}
use Rattle.hart_c.specs.declared.process.HartProcess.{HartProcess}

-- Whether a frame asks for a command of the maker's own that is in the list `own`.
abbrev pub asks_listed : DeviceState → List ℕ → FrameParts → Bool
asks_listed state own frame = asks_own state frame && list_any (λ command. command == frame.command) own

-- A delivery asks for a command of the list `own`: the device can hear the delivery, `asked` describes the only frame of the delivery, and
-- this frame asks for such a command.
pub record AsksOwn (identity : HartIdentity) (process : HartProcess) (own : List ℕ) (heard : List HartChar) (device : HartDevice)
    (asked : HartFrame) : Type 0 where
  pub hearing : IsHearing identity process heard device
  pub alone : AreFrames (map char_of heard) 0 (found_in asked ∷ [])
  pub asks : asks_listed hearing.state own (frame_in asked) ≡ true

-- If the delivery asks for a command of the list, its frame is written to the caller's `HartFrame`, and nothing else changes. Otherwise the
-- call does as `hart_hear` does, and the `HartFrame` is unchanged.
abbrev pub HearOwnOutcome : HartIdentity → HartProcess → List ℕ → List HartChar → HartDevice → HartDevice → HartFrame → HartFrame
    → List ℕ → List ℕ → HartHearing → Type 0
HearOwnOutcome identity process own heard before after shown asked old new told =
    (AsksOwn identity process own heard before asked × IsTidy asked × (told ≡ record { len = 0; is_own = true; fault = 0 })
    × (after ≡ before) × (new ≡ old))
    ⊎ (((frame : HartFrame) → AsksOwn identity process own heard before frame → ⊥) × (told.is_own ≡ false) × (asked ≡ shown)
    × HearOutcome identity process heard before after old new (record { len = told.len; fault = told.fault }))

-- The conditions for a device to answer a frame. The kept device has a state, the `HartProcess` describes a process, the `HartFrame`
-- describes a frame, and the frame asks for a command of the maker's own.
pub record IsOwnAnswer (identity : HartIdentity) (process : HartProcess) (asked : HartFrame) (device : HartDevice) : Type 0 where
  pub state : DeviceState
  pub measured : Process
  pub kept : IsKept (parts_of identity) device state
  pub process_is : IsProcessOf process measured
  pub numbers : IsFrame asked
  pub asks : IsTrue (asks_own state (frame_in asked))

-- The message of the reply is written. The device is then in the state after the command and after the reply.
pub record AnswersOwn (identity : HartIdentity) (process : HartProcess) (asked : HartFrame) (code : ℕ) (is_write : Bool) (bytes : List ℕ)
    (before after : HartDevice) (old new : List ℕ) (len : ℕ) : Type 0 where
  pub answer : IsOwnAnswer identity process asked before
  pub code_is : code < 128
  pub few : length bytes ≤ 253
  pub reply : IsWritten
      (IsSaid (Some (own_reply (after_own is_write answer.state) answer.measured (frame_in asked) code bytes)) identity.response_preambles)
      old new len
  pub state : after ≡ device_of (after_reply (frame_in asked).master (after_own is_write answer.state))
  pub kept : IsKept (parts_of identity) after (after_reply (frame_in asked).master (after_own is_write answer.state))

-- The checks of an answer, in this order: the frame asks for a command of the maker's own; the code is at most 127; there are at most 253
-- data bytes; the reply fits.
abbrev pub own_checks : HartIdentity → HartProcess → HartFrame → ℕ → Bool → List ℕ → HartDevice → ℕ → List Check
own_checks identity process asked code is_write bytes device room =
    needs (IsOwnAnswer identity process asked device) NoRequest
    ∷ needs (code < 128) BadCode
    ∷ needs (length bytes ≤ 253) TooLong
    ∷ refused_if ((answer : IsOwnAnswer identity process asked device) × HasNoRoom
    (IsSaid (Some (own_reply (after_own is_write answer.state) answer.measured (frame_in asked) code bytes)) identity.response_preambles)
    room) NoRoom ∷ []

-- The checks of `hart_answer`, in this order: the checks of the device; the process has one to four dynamic variables; the checks of the
-- frame; the checks of the answer.
abbrev pub answer_checks : HartIdentity → HartProcess → HartFrame → ℕ → Bool → List ℕ → HartDevice → ℕ → List Check
answer_checks identity process asked code is_write bytes device room =
    state_checks identity device ++ needs (HasVariables process) BadVariables
    ∷ frame_checks asked ++ own_checks identity process asked code is_write bytes device room

-- Either the device has answered, and the call returns the length of the reply. Or the call returns a fault, and the kept device and the
-- output are unchanged.
abbrev pub AnswerOutcome : HartIdentity → HartProcess → HartFrame → ℕ → Bool → List ℕ → HartDevice → HartDevice → List ℕ → List ℕ
    → HartOutcome → Type 0
AnswerOutcome identity process asked code is_write bytes before after old new =
    Outcome (answer_checks identity process asked code is_write bytes before (length old))
    (AnswersOwn identity process asked code is_write bytes before after old new) ((after ≡ before) × (new ≡ old)) outcome_of
