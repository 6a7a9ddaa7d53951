use Rattle.std.proofs.Common.{if◌then◌else◌, ◌≡◌, ℕ, arith, bit_and, bit_or, Bool, refl, Some, IsSomeAnd, slice_get}
use Rattle.std.proofs.lemmas.Nat.Bits.{bit_at_and, bit_at_or}
use Rattle.std.specs.Int.{bit_at}
use Rattle.hart_values.specs.EachMaster.{of_master, with_master}
use Rattle.hart_values.specs.declared.each_master.EachMaster.{EachMaster}
use Rattle.hart_values.specs.declared.master_id.MasterId.{MasterId}
use Rattle.hart_frame.specs.wire.FrameParts.{FrameParts}
use Rattle.hart_device.specs.Device.{DeviceState, Effect, after}
use Rattle.hart_device.specs.Process.{has_more_status}
use Rattle.hart_device.specs.answer.Answer.{after_command, answer_of, effect_of, is_answered, reply_of, state_after}
use Rattle.hart_device.specs.Bits.{bit_if}
use Rattle.hart_device.specs.answer.Status.{is_loop_current_fixed}
use Rattle.hart_device.specs.declared.process.Process.{Process}
use Rattle.hart_device.proofs.lemmas.answer.Effect.{answered_if}
use Rattle.hart_device.proofs.laws.cold_starts_are_shown_once.Goals as goal

-- no effect changes a cold start bit
effect_keeps : (master : MasterId) (effect : Effect) (state : DeviceState) → (after master effect state).cold_start ≡ state.cold_start
effect_keeps master effect state = grind arith

bit_in_status : (x : ℕ) (changed cold more fixed : Bool)
    → bit_at (bit_or (bit_or (bit_or (bit_or (bit_and x 0x87) (bit_if changed 0x40)) (bit_if cold 0x20)) (bit_if more 0x10))
    (bit_if fixed 0x08)) 5 ≡ (if cold then 1 else 0)
bit_in_status x changed cold more fixed = simp (bit_at_or, bit_at_and) (grind arith)

with_this : (master : MasterId) (bit : Bool) (bits : EachMaster Bool) → of_master master (with_master master bit bits) ≡ bit
with_this master bit bits = grind arith

-- the status in an answer shows the bit of its master
shown : (state : DeviceState) (process : Process) (frame reply : FrameParts) → answer_of state process frame ≡ Some reply
    → IsSomeAnd (slice_get reply.payload 1) (λ status. bit_at status 5 ≡ (if of_master frame.master state.cold_start then 1 else 0))
shown state process frame reply is =
    let commanded = after_command state frame in
    rw (
      ← effect_keeps frame.master (effect_of state frame) state,
      ← (answered_if (is_answered state frame) frame reply (reply_of state process frame) is).3,
    )
    (bit_in_status process.status (of_master frame.master commanded.changed) (of_master frame.master commanded.cold_start)
    (has_more_status process) (is_loop_current_fixed commanded))

pub returns-clause-shown : goal.returns-clause-shown
returns-clause-shown c = shown

pub returns-clause-once : goal.returns-clause-once
returns-clause-once c = λ state process frame later reply answered same is.
    rw (answered, effect_keeps frame.master _ state, same, with_this)
    at (shown (state_after state frame) process later reply is)

pub returns-clause-cleared : goal.returns-clause-cleared
returns-clause-cleared c = λ state frame is. rw (effect_keeps frame.master (effect_of state frame) state, is) refl
