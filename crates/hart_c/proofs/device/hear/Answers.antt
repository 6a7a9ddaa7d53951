use Rattle.std.proofs.Common.{◌≡◌, inl, inr, ℕ, Bool, true, false, Err, List, Option, None, Some, [], ◌∷◌, arith, length}
use Rattle.std.proofs.Common.{length-append, map, refl, rules}
use Rattle.std.proofs.lemmas.Grind.{common_steps}
use Rattle.std.specs.Prelude.{if◌then◌else◌, take}
use Rattle.std.proofs.lemmas.List.{length-replicate}
use Rattle.hart_frame.specs.wire.FrameParts.{FrameParts}
use Rattle.hart_frame.specs.wire.Message.{IsPreambleCount}
use Rattle.hart_device.specs.Device.{DeviceState}
use Rattle.hart_device.specs.answer.Answer.{is_answered}
use Rattle.hart_device.specs.answer.Delivery.{Brings, Brought, OneFrame, Garbled, NoMessage, answer_to, state_after_delivery}
use Rattle.hart_device.specs.declared.process.Process.{Process}
use Rattle.hart_device.proofs.lemmas.Laws.{deliveries_bring_one-brings, frames_leave_identity_and_protection-identity}
use Rattle.hart_c.specs.Faults.{AllPass, refused_if}
use Rattle.hart_c.specs.Device.{IsHearing, IsSaid, state_checks}
use Rattle.hart_c.specs.Messages.{HasNoRoom, IsWritten}
use Rattle.hart_c.specs.Find.{char_of, heard_checks}
use Rattle.hart_c.specs.Numbers.{IsProcessOf, parts_of}
use Rattle.hart_c.specs.declared.fault.Fault.TheVariants.{NoRoom}
use Rattle.hart_c.proofs.Checks.{first_before, if_err, if_ok}
use Rattle.hart_c.proofs.Kept.{devices_are_kept-kept}
use Rattle.hart_c.proofs.device.hear.Goals.{In_ok-process}
use Rattle.hart_c.proofs.device.hear.Goals as goal

-- a delivery leaves the identity of a device unchanged
stays : (state : DeviceState) (brought : Brought) → (state_after_delivery state brought).identity ≡ state.identity
stays state brought = grind (arith, frames_leave_identity_and_protection-identity)

-- without a reply, the state is unchanged
silent_if : (is_answered : Bool) (reply : FrameParts) (state after : DeviceState) → (if is_answered then Some reply else None) ≡ None
    → (if is_answered then after else state) ≡ state
silent_if true reply state after none = cc
silent_if false reply state after none = refl

-- a delivery that is not answered leaves the state unchanged
unanswered : (state : DeviceState) (process : Process) (brought : Brought) → answer_to state process brought ≡ None
    → state_after_delivery state brought ≡ state
unanswered state process (OneFrame frame) none = silent_if (is_answered state frame) _ state _ none
unanswered state process (Garbled request) none = cc
unanswered state process NoMessage none = refl

-- if no bytes were written for an answer, there was no answer
unsaid : (answer : Option FrameParts) (preambles : ℕ) (old new : List ℕ) (len : ℕ) → IsPreambleCount preambles
    → IsWritten (IsSaid answer preambles) old new len → len ≡ 0 → answer ≡ None
unsaid None preambles old new len counts said none = refl
unsaid (Some reply) preambles old new len counts said none =
    grind (arith, common_steps, length-append, length-replicate)

-- all checks are passed: what the device hears in the delivery
abbrev hearing : (c : In_ok-process) → IsProcessOf c.args.process.now c.in_ok-process.process
    → AllPass (heard_checks c.args.heard.now) → IsHearing c.args.identity.now c.args.process.now c.args.heard.now c.args.device.now
hearing c process_is delivery =
    let (brought, brings) = deliveries_bring_one-brings (parts_of c.args.identity.now) (map char_of c.args.heard.now) in
    record {
      state = c.in_ok-state.state;
      measured = c.in_ok-process.process;
      brought = brought;
      kept = c.in_ok-state.ensures.kept;
      process_is = process_is;
      delivery = delivery;
      brings = brings;
    }

pub returns-clause-refused : goal.returns-clause-refused
returns-clause-refused c =
    let heard = hearing (goal.at.returns-clause-refused c).In_ok-process (search rules) c.in_ok-delivery.ensures.accepted in
    let brings : Brings c.in_ok-state.state.identity (take c.in_ok-delivery.delivery c.hear_into.new.chars) heard.brought =
    rw (c.in_ok-state.ensures.kept.identity, c.in_ok-delivery.ensures.same) heard.brings in
    let after = c.hear-said.ensures.state heard.brought brings in
    let own : c.hear-said.new.self.identity ≡ parts_of c.args.identity.now =
    rw (after, stays c.in_ok-state.state heard.brought) c.in_ok-state.ensures.kept.identity in
    let counts : c.hear-said.new.self.identity.response_preambles ≡ c.args.identity.now.response_preambles = grind (arith, own) in
    let answer = c.hear-said.ensures.answer heard.brought brings in
    let (bits, (few, end)) = heard.delivery in
    if_err c.say_and_keep.result _ _
    (λ fault why.
    let no_room : HasNoRoom (IsSaid (answer_to heard.state heard.measured heard.brought) c.args.identity.now.response_preambles)
    (length c.args.reply.now) = rw (← answer, ← counts) why.1 in
    inr (
      heard.kept.is_identity,
      inr (
        heard.kept.fits,
        inr ((heard.state, heard.kept), inr (heard.process_is.count, inr (bits, inr (few, inl ((heard, no_room), why.0))))),
      ),
    ))
    c.say_and_keep.ensures.refused

pub returns-in_err-state-clause-refused : goal.returns-in_err-state-clause-refused
returns-in_err-state-clause-refused c =
    grind (arith, common_steps, first_before (state_checks c.args.identity.now c.args.device.now))

pub returns-in_err-delivery-clause-refused : goal.returns-in_err-delivery-clause-refused
returns-in_err-delivery-clause-refused c =
    let fault = c.in_err-delivery.field-0.0 in
    let is : c.from_residual-in_err-delivery.result ≡ Err fault = grind (arith, common_steps) in
    let kept = c.in_ok-state.ensures.kept in
    let measured : IsProcessOf c.args.process.now c.in_ok-process.process = search rules in
    let fits = refused_if ((none : IsHearing c.args.identity.now c.args.process.now c.args.heard.now c.args.device.now) × HasNoRoom
    (IsSaid (answer_to none.state none.measured none.brought) c.args.identity.now.response_preambles) (length c.args.reply.now)) NoRoom in
    let later = first_before (heard_checks c.args.heard.now) (fits ∷ []) fault in
    rw is (inr (
      kept.is_identity,
      inr (kept.fits, inr ((c.in_ok-state.state, kept), inr (measured.count, later c.in_err-delivery.ensures.refused))),
    ))

pub returns-clause-heard : goal.returns-clause-heard
returns-clause-heard c =
    let heard = hearing (goal.at.returns-clause-heard c).In_ok-process (search rules) c.in_ok-delivery.ensures.accepted in
    let brings : Brings c.in_ok-state.state.identity (take c.in_ok-delivery.delivery c.hear_into.new.chars) heard.brought =
    rw (c.in_ok-state.ensures.kept.identity, c.in_ok-delivery.ensures.same) heard.brings in
    let after = c.hear-said.ensures.state heard.brought brings in
    let own : c.hear-said.new.self.identity ≡ parts_of c.args.identity.now =
    rw (after, stays c.in_ok-state.state heard.brought) c.in_ok-state.ensures.kept.identity in
    let counts : c.hear-said.new.self.identity.response_preambles ≡ c.args.identity.now.response_preambles = grind (arith, own) in
    let answer = c.hear-said.ensures.answer heard.brought brings in
    let sent : IsPreambleCount c.args.identity.now.response_preambles =
    c.in_ok-state.ensures.kept.is_identity.in_range.response_preambles in
    if_ok c.say_and_keep.result _ _ _
    (λ len said kept.
    let reply : IsWritten (IsSaid (answer_to heard.state heard.measured heard.brought) c.args.identity.now.response_preambles)
    c.args.reply.now c.say_and_keep.new.reply len = rw (← answer, ← counts) said in
    record {
      hearing = heard;
      reply = reply;
      silent = λ none. unanswered c.in_ok-state.state c.in_ok-process.process heard.brought (unsaid _ _ _ _ _ sent reply none);
      state = rw (← after) kept;
      kept = rw (← after, kept, ← own) (devices_are_kept-kept _ c.say_and_keep.ensures.device);
    })
    c.say_and_keep.ensures.said c.say_and_keep.ensures.kept
