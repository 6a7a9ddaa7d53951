use Rattle.std.proofs.Common.{◌≡◌, ◌<◌, ◌≤◌, ◌∙◌, ap, inl, inr, ℕ, Bool, true, false, List, Err, Some, arith, length, refl, rules, subst}
use Rattle.std.proofs.Common.{sym}
use Rattle.std.proofs.lemmas.Grind.{common_steps}
use Rattle.hart_values.specs.declared.master_id.MasterId.{MasterId}
use Rattle.hart_frame.specs.wire.FrameParts.{FrameParts}
use Rattle.hart_device.specs.Device.{DeviceState, IsDevice, after_reply}
use Rattle.hart_device.specs.declared.identity_parts.IdentityParts.{IdentityParts}
use Rattle.hart_device.specs.answer.Own.{after_own, asks_own, own_reply}
use Rattle.hart_c.specs.Device.{IsKept, IsSaid, device_of}
use Rattle.hart_c.specs.Faults.{IsFirstOf}
use Rattle.hart_c.specs.Messages.{HasNoRoom, IsFrame, IsWritten, frame_checks}
use Rattle.hart_c.specs.Numbers.{HasVariables, IsProcessOf, frame_in, parts_of}
use Rattle.hart_c.specs.Own.{AnswersOwn, IsOwnAnswer, answer_checks, own_checks}
use Rattle.hart_c.specs.declared.fault.Fault.{Fault}
use Rattle.hart_c.specs.declared.fault.Fault.TheVariants.{NoRoom}
use Rattle.hart_c.specs.declared.device.HartDevice.{HartDevice}
use Rattle.hart_c.specs.declared.frame.HartFrame.{HartFrame}
use Rattle.hart_c.specs.declared.identity.HartIdentity.{HartIdentity}
use Rattle.hart_c.specs.declared.process.HartProcess.{HartProcess}
use Rattle.hart_c.proofs.Checks.{first_before, if_err, if_ok}
use Rattle.hart_c.proofs.Kept.{devices_are_kept-kept, devices_are_kept-one_state}
use Rattle.hart_c.proofs.own.answer.Goals.{In_ok-frame}
use Rattle.hart_c.proofs.own.answer.Goals as goal

-- the answer is checked after the device, the process and the frame have passed
after_frame : (identity : HartIdentity) (process : HartProcess) (asked : HartFrame) (code : ℕ) (is_write : Bool) (bytes : List ℕ)
    (device : HartDevice) (room : ℕ) (fault : Fault) (state : DeviceState) → IsKept (parts_of identity) device state → HasVariables process
    → IsFrame asked → IsFirstOf (own_checks identity process asked code is_write bytes device room) fault
    → IsFirstOf (answer_checks identity process asked code is_write bytes device room) fault
after_frame identity process asked code is_write bytes device room fault state kept count (address, (expansion, (payload, end))) why =
    inr (
      kept.is_identity,
      inr (kept.fits, inr ((state, kept), inr (count, inr (address, inr (expansion, inr (payload, why)))))),
    )

pub returns-in_err-frame-clause-refused : goal.returns-in_err-frame-clause-refused
returns-in_err-frame-clause-refused c =
    let fault = c.in_err-frame.field-0.0 in
    let is : c.from_residual-in_err-frame.result ≡ Err fault = grind (arith, common_steps) in
    let kept = c.in_ok-state.ensures.kept in
    let measured : IsProcessOf c.args.process.now c.in_ok-process.process = search rules in
    let others = own_checks c.args.identity.now c.args.process.now c.args.asked.now c.args.code c.args.is_write c.args.«data».now
    c.args.device.now (length c.args.reply.now) in
    let later = first_before (frame_checks c.args.asked.now) others fault c.in_err-frame.ensures.refused in
    rw is (inr (kept.is_identity, inr (kept.fits, inr ((c.in_ok-state.state, kept), inr (measured.count, later)))))

pub returns-then-not-asks_own-clause-refused : goal.returns-then-not-asks_own-clause-refused
returns-then-not-asks_own-clause-refused c =
    let kept = c.in_ok-state.ensures.kept in
    let measured : IsProcessOf c.args.process.now c.in_ok-process.process = search rules in
    let none : IsOwnAnswer c.args.identity.now c.args.process.now c.args.asked.now c.args.device.now → ⊥ =
    λ answer.
    grind (
      arith,
      devices_are_kept-one_state (parts_of c.args.identity.now) c.args.device.now c.in_ok-state.state answer.state kept answer.kept,
      answer.asks,
      c.if-not-asks_own.true,
      c.asks_own.ensures,
      c.in_ok-frame.ensures.same,
    ) in
    after_frame _ _ _ _ _ _ _ _ _ c.in_ok-state.state kept measured.count c.in_ok-frame.ensures.frame (inl (none, refl))

-- all checks of the numbers are passed: what the device answers
abbrev answering : (c : In_ok-frame) → IsProcessOf c.args.process.now c.in_ok-process.process
    → asks_own c.in_ok-state.state (frame_in c.args.asked.now) ≡ true
    → IsOwnAnswer c.args.identity.now c.args.process.now c.args.asked.now c.args.device.now
answering c measured asks = record {
  state = c.in_ok-state.state;
  measured = c.in_ok-process.process;
  kept = c.in_ok-state.ensures.kept;
  process_is = measured;
  numbers = c.in_ok-frame.ensures.frame;
  asks = asks;
}

pub returns-in_default-clause-refused : goal.returns-in_default-clause-refused
returns-in_default-clause-refused c =
    let kept = c.in_ok-state.ensures.kept in
    let measured : IsProcessOf c.args.process.now c.in_ok-process.process = search rules in
    let asks : asks_own c.in_ok-state.state (frame_in c.args.asked.now) ≡ true =
    grind (arith, c.if-not-asks_own.false, c.asks_own.ensures, c.in_ok-frame.ensures.same) in
    let answer = answering (goal.at.returns-in_default-clause-refused c).In_ok-frame measured asks in
    let bad : c.args.code < 128 → ⊥ = grind (arith, common_steps, c.in_default.ensures.accepted) in
    after_frame _ _ _ _ _ _ _ _ _ c.in_ok-state.state kept measured.count c.in_ok-frame.ensures.frame (inr (answer, inl (bad, refl)))

-- the command and the reply leave the identity of a device unchanged
identity_stays : (is_write : Bool) (master : MasterId) (state : DeviceState)
    → (after_reply master (after_own is_write state)).identity ≡ state.identity
identity_stays true master state = refl
identity_stays false master state = refl

-- the lemmas for a device that answers a request of the maker's own
module _ (identity : HartIdentity) (process : HartProcess) (asked : HartFrame) (code : ℕ) (is_write : Bool) (bytes : List ℕ)
    (before : HartDevice) (answer : IsOwnAnswer identity process asked before) (said : FrameParts) (next : DeviceState)
    (code_is : code < 128) (few : length bytes ≤ 253)
    (said_is : said ≡ own_reply (after_own is_write answer.state) answer.measured (frame_in asked) code bytes)
    (next_is : next ≡ after_reply (frame_in asked).master (after_own is_write answer.state)) where
  own : next.identity ≡ parts_of identity
  own =
      ap (λ (state : DeviceState). state.identity) next_is ∙ identity_stays is_write (frame_in asked).master answer.state
      ∙ answer.kept.identity

  counts : next.identity.response_preambles ≡ identity.response_preambles
  counts = ap (λ (parts : IdentityParts). parts.response_preambles) own

  -- the device has answered if its reply is written and its state is kept
  answered : (after : HartDevice) (old new : List ℕ) (len : ℕ) → IsWritten (IsSaid (Some said) next.identity.response_preambles) old new len
      → after ≡ device_of next → IsDevice next → AnswersOwn identity process asked code is_write bytes before after old new len
  answered after old new len written kept is = record {
    answer = answer;
    code_is = code_is;
    few = few;
    reply = subst (λ (frame : FrameParts). IsWritten (IsSaid (Some frame) identity.response_preambles) old new len) said_is
        (subst (λ (preambles : ℕ). IsWritten (IsSaid (Some said) preambles) old new len) counts written);
    state = kept ∙ ap device_of next_is;
    kept = subst (λ (state : DeviceState). IsKept (parts_of identity) after state) next_is
        (subst (λ (device : HartDevice). IsKept (parts_of identity) device next) (sym kept)
        (subst (λ (parts : IdentityParts). IsKept parts (device_of next) next) own (devices_are_kept-kept next is)));
  }

  -- the device cannot answer if there is no room for its reply
  unanswered : (room : ℕ) (fault : Fault) → (fault ≡ NoRoom) × HasNoRoom (IsSaid (Some said) next.identity.response_preambles) room
      → IsFirstOf (own_checks identity process asked code is_write bytes before room) fault
  unanswered room fault (told, none) =
      let no_room = subst (λ (frame : FrameParts). HasNoRoom (IsSaid (Some frame) identity.response_preambles) room) said_is
      (subst (λ (preambles : ℕ). HasNoRoom (IsSaid (Some said) preambles) room) counts none) in
      inr (answer, inr (code_is, inr (few, inl ((answer, no_room), told))))

pub returns-clause-answered : goal.returns-clause-answered
returns-clause-answered c =
    let measured : IsProcessOf c.args.process.now c.in_ok-process.process = search rules in
    let asks : asks_own c.in_ok-state.state (frame_in c.args.asked.now) ≡ true =
    grind (arith, c.if-not-asks_own.false, c.asks_own.ensures, c.in_ok-frame.ensures.same) in
    let answer = answering (goal.at.returns-clause-answered c).In_ok-frame measured asks in
    let state = after_own c.args.is_write c.in_ok-state.state in
    let sent : c.answer_own-said.result
    ≡ own_reply state c.in_ok-process.process (frame_in c.args.asked.now) c.args.code c.args.«data».now =
    grind (arith, c.answer_own-said.ensures.reply, c.in_ok-frame.ensures.same, c.in-Ok.ensures.kept) in
    let after : c.answer_own-said.new.self ≡ after_reply (frame_in c.args.asked.now).master state =
    grind (arith, c.answer_own-said.ensures.state, c.in_ok-frame.ensures.same) in
    let code_is : c.args.code < 128 = grind (arith, common_steps, c.in-Ok.ensures.accepted) in
    let few : length c.args.«data».now ≤ 253 = grind (arith, common_steps, c.if-data-gt-MOST_DATA.false) in
    if_ok c.say_and_keep.result _ _ _
    (λ len said kept. answered c.args.identity.now c.args.process.now c.args.asked.now c.args.code c.args.is_write c.args.«data».now
    c.args.device.now answer c.answer_own-said.result c.answer_own-said.new.self code_is few sent after c.say_and_keep.new.device
    c.args.reply.now c.say_and_keep.new.reply len said kept c.say_and_keep.ensures.device)
    c.say_and_keep.ensures.said c.say_and_keep.ensures.kept

pub returns-clause-refused : goal.returns-clause-refused
returns-clause-refused c =
    let kept = c.in_ok-state.ensures.kept in
    let measured : IsProcessOf c.args.process.now c.in_ok-process.process = search rules in
    let asks : asks_own c.in_ok-state.state (frame_in c.args.asked.now) ≡ true =
    grind (arith, c.if-not-asks_own.false, c.asks_own.ensures, c.in_ok-frame.ensures.same) in
    let answer = answering (goal.at.returns-clause-refused c).In_ok-frame measured asks in
    let state = after_own c.args.is_write c.in_ok-state.state in
    let sent : c.answer_own-said.result
    ≡ own_reply state c.in_ok-process.process (frame_in c.args.asked.now) c.args.code c.args.«data».now =
    grind (arith, c.answer_own-said.ensures.reply, c.in_ok-frame.ensures.same, c.in-Ok.ensures.kept) in
    let after : c.answer_own-said.new.self ≡ after_reply (frame_in c.args.asked.now).master state =
    grind (arith, c.answer_own-said.ensures.state, c.in_ok-frame.ensures.same) in
    let code_is : c.args.code < 128 = grind (arith, common_steps, c.in-Ok.ensures.accepted) in
    let few : length c.args.«data».now ≤ 253 = grind (arith, common_steps, c.if-data-gt-MOST_DATA.false) in
    if_err c.say_and_keep.result _ _
    (λ fault why. after_frame c.args.identity.now c.args.process.now c.args.asked.now c.args.code c.args.is_write c.args.«data».now
    c.args.device.now (length c.args.reply.now) fault c.in_ok-state.state kept measured.count c.in_ok-frame.ensures.frame
    (unanswered c.args.identity.now c.args.process.now c.args.asked.now c.args.code c.args.is_write c.args.«data».now
    c.args.device.now answer c.answer_own-said.result c.answer_own-said.new.self code_is few sent after
    (length c.args.reply.now) fault why))
    c.say_and_keep.ensures.refused
