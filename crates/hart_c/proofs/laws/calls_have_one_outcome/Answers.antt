use Rattle.std.proofs.Common.{◌≡◌, ℕ, List, Result, Ok, Err, ap, arith, length, map, rules, subst, sym, ◌∙◌}
use Rattle.std.proofs.lemmas.Grind.{common_steps}
use Rattle.hart_frame.specs.wire.FrameParts.{FrameParts}
use Rattle.hart_frame.specs.wire.Message.{IsMessage, IsPreambleCount}
use Rattle.hart_frame.proofs.lemmas.Laws.{bodies_are_unambiguous-one_prefix}
use Rattle.hart_frame.proofs.lemmas.Laws.{frames_are_unambiguous-one_list}
use Rattle.hart_commands.specs.declared.{reply.Reply.Reply, request.Request.Request}
use Rattle.hart_device.specs.answer.Delivery.{answer_to}
use Rattle.hart_device.specs.declared.identity_parts.IdentityParts.{IdentityParts}
use Rattle.hart_device.proofs.lemmas.Laws.{deliveries_bring_one-one}
use Rattle.hart_master.proofs.lemmas.Laws.{replies_are_decided-one_reply}
use Rattle.hart_c.specs.Faults.{AllPass, outcome_of}
use Rattle.hart_c.specs.Device.{Hears, IsHearing, IsSaid, hear_checks}
use Rattle.hart_c.specs.Messages.{HasNoRoom, IsFrame, IsWritten, encode_checks}
use Rattle.hart_c.specs.Find.{char_of}
use Rattle.hart_c.specs.Numbers.{found_in, frame_in, parts_of}
use Rattle.hart_c.specs.Acceptance.{AcceptsFrame, IsAsked, IsJudged, accept_frame_checks, match_checks}
use Rattle.hart_c.specs.Master.{Accepts, IsUnaccepted, accept_checks}
use Rattle.hart_c.specs.declared.device.HartDevice.{HartDevice}
use Rattle.hart_c.specs.declared.fault.Fault.{Fault}
use Rattle.hart_c.specs.declared.find.HartChar.{HartChar}
use Rattle.hart_c.specs.declared.frame.HartFrame.{HartFrame}
use Rattle.hart_c.specs.declared.identity.HartIdentity.{HartIdentity}
use Rattle.hart_c.specs.declared.process.HartProcess.{HartProcess}
use Rattle.hart_c.proofs.Checks.{AreSound, first_none, first_one, needs-sound, refused_if-sound}
use Rattle.hart_c.specs.declared.reason.Unaccepted.{Unaccepted}
use Rattle.hart_c.proofs.Accepted.{not_accepted, not_judged, one_judged, one_reason}
use Rattle.hart_c.proofs.Kept.{devices_are_kept-one_state, state_sound}
use Rattle.hart_c.proofs.Checks.{one_message, one_outcome, one_said, said_fits}
use Rattle.hart_c.proofs.laws.calls_have_one_outcome.Goals.{After-bytes_have_one_image_fault}
use Rattle.hart_c.proofs.laws.calls_have_one_outcome.Goals as goal

pub returns-clause-decode : goal.returns-clause-decode
returns-clause-decode c bytes before after other outcome another is again =
    let free = c.bytes_have_one_fault.ensures.not_both bytes in
    let one = bodies_are_unambiguous-one_prefix (frame_in after) (frame_in other) bytes outcome.len another.len in
    grind (arith, c.bytes_have_one_fault.ensures.one bytes, free (frame_in after) outcome.len, free (frame_in other) another.len, one)

-- the checks of a frame to be written are sound
encode_sound : (frame : HartFrame) (preambles room : ℕ) → AreSound (encode_checks frame preambles room)
encode_sound frame preambles room = search (rules, needs-sound, refused_if-sound)

written_passes : (frame : HartFrame) (preambles : ℕ) (before after : List ℕ) (len : ℕ) → IsFrame frame
    → IsPreambleCount preambles → IsWritten (IsMessage (frame_in frame) preambles) before after len
    → AllPass (encode_checks frame preambles (length before))
written_passes frame preambles before after len (address, (expansion, (payload, end))) in_range is =
    (address, (expansion, (payload, (in_range, (λ none. grind (arith, common_steps, one_message), tt)))))

pub returns-clause-encode : goal.returns-clause-encode
returns-clause-encode c frame preambles before after other outcome another =
    let checks = encode_checks frame preambles (length before) in
    let sound = encode_sound frame preambles (length before) in
    one_outcome (λ is again. grind (arith, one_message (frame_in frame) preambles is.1.2.0 again.1.2.0))
    (λ is why. first_none checks sound (written_passes frame preambles before after is.0 is.1.0 is.1.1 is.1.2) why.0 why.1)
    (λ why is. first_none checks sound (written_passes frame preambles before other is.0 is.1.0 is.1.1 is.1.2) why.0 why.1)
    (λ why again. grind (arith, first_one checks sound why.0 again.0))

pub returns-clause-new_devices : goal.returns-clause-new_devices
returns-clause-new_devices c given before after other outcome another =
    one_outcome (λ is again. let parts : IdentityParts = grind (arith, common_steps) in grind (arith, is.1.4 parts, again.1.4 parts))
    (λ is why. grind (arith, is.1.3)) (λ why is. grind (arith, is.1.3)) (λ why again. grind arith)

-- the lemmas for a device that hears a delivery while it measures a process
module _ (identity : HartIdentity) (process : HartProcess) (heard : List HartChar) (device : HartDevice) where
  -- the numbers determine the state, the process and what the delivery brings
  one_hearing : (is again : IsHearing identity process heard device)
      → (is.state ≡ again.state) × (is.measured ≡ again.measured) × (is.brought ≡ again.brought)
  one_hearing is again =
      let brought = deliveries_bring_one-one (parts_of identity) (map char_of heard) is.brought again.brought is.brings again.brings in
      grind (arith, devices_are_kept-one_state (parts_of identity) device is.state again.state is.kept again.kept, brought)

  -- the checks of what a device hears are sound
  hear_sound : (c : After-bytes_have_one_image_fault) (room : ℕ) → AreSound (hear_checks identity process heard device room)
  hear_sound c room =
      let (who, (fits, (kept, end))) = state_sound c.bytes_have_one_image_fault.ensures identity device in
      (who, (fits, (kept, (needs-sound _ _, (needs-sound _ _, (needs-sound _ _, (refused_if-sound _ _, tt)))))))

  heard_passes : (after : HartDevice) (old new : List ℕ) (len : ℕ)
      → Hears identity process heard device after old new len → AllPass (hear_checks identity process heard device (length old))
  heard_passes after old new len is =
      let hearing = is.hearing in
      let (bits, (few, end)) = hearing.delivery in
      let room : ((none : IsHearing identity process heard device) × HasNoRoom
      (IsSaid (answer_to none.state none.measured none.brought) identity.response_preambles) (length old)) → ⊥ =
      λ none.
      let (state, measured, brought) = one_hearing none.0 hearing in
      said_fits _ _ _ _ _ is.reply (rw (state, measured, brought) at none.1) in (
        hearing.kept.is_identity,
        (hearing.kept.fits, ((hearing.state, hearing.kept), (hearing.process_is.count, (bits, (few, (room, tt)))))),
      )

pub returns-clause-hear : goal.returns-clause-hear
returns-clause-hear c identity process heard before after other old new newer outcome another =
    let checks = hear_checks identity process heard before (length old) in
    let sound = hear_sound identity process heard before c (length old) in
    one_outcome
    (λ is again.
    let (state, measured, brought) = one_hearing identity process heard before is.1.hearing again.1.hearing in
    let said = one_said _ _ _ _ _ _ _ (rw (state, measured, brought) at is.1.reply) again.1.reply in
    let same : after ≡ other = is.1.state ∙ rw (state, brought) (sym again.1.state) in
    (is.2 ∙ ap (λ (n : ℕ). outcome_of (Ok n)) said.0 ∙ sym again.2, same, said.1))
    (λ is why. first_none checks sound (heard_passes identity process heard before after old new is.0 is.1) why.0 why.1)
    (λ why is. first_none checks sound (heard_passes identity process heard before other old newer is.0 is.1) why.0 why.1)
    (λ why again.
    let same = first_one checks sound why.0 again.0 why.1 again.1 in
    (why.2 ∙ ap (λ (fault : Fault). outcome_of (Err fault)) same ∙ sym again.2, why.3.0 ∙ sym again.3.0, why.3.1 ∙ sym again.3.1))

-- the checks of what a master accepts are sound
accept_sound : (numbers : HartFrame) (heard : List HartChar) → AreSound (accept_checks numbers heard)
accept_sound numbers heard = search (rules, needs-sound)

-- a frame asks at most one request
one_asked : (frame : FrameParts) (request other : Request) → IsAsked frame request → IsAsked frame other → request ≡ other
one_asked frame request other is again = let read = is.reading in let same = again.reading in cc

-- what a master accepts is determined by the numbers and the delivery
same_accepted : (numbers : HartFrame) (heard : List HartChar) (before after other : HartFrame) (said tale : Result Reply Unaccepted)
    → Accepts numbers heard before after said → Accepts numbers heard before other tale
    → (said ≡ tale) × (found_in after ≡ found_in other)
same_accepted numbers heard before after other (Err reason) (Err another) is again =
    let same = one_asked (frame_in numbers) again.request is.request again.asked is.asked in
    let one = one_reason (frame_in numbers).master (frame_in numbers).address is.request (map char_of heard) reason another
    is.reply.0 (subst (λ (request : Request). IsUnaccepted (frame_in numbers).master (frame_in numbers).address request
    (map char_of heard) another) same again.reply.0) in
    (ap (λ (told : Unaccepted). Err told) one, ap found_in (is.reply.1 ∙ sym again.reply.1))
same_accepted numbers heard before after other (Err reason) (Ok reply) is again =
    let same = one_asked (frame_in numbers) is.request again.request is.asked again.asked in
    absurd (not_accepted (frame_in numbers).master (frame_in numbers).address again.request (map char_of heard) reason reply
    (subst (λ (request : Request). IsUnaccepted (frame_in numbers).master (frame_in numbers).address request
    (map char_of heard) reason) same is.reply.0) again.reply.0)
same_accepted numbers heard before after other (Ok reply) (Err reason) is again =
    let same = one_asked (frame_in numbers) again.request is.request again.asked is.asked in
    absurd (not_accepted (frame_in numbers).master (frame_in numbers).address is.request (map char_of heard) reason reply
    (subst (λ (request : Request). IsUnaccepted (frame_in numbers).master (frame_in numbers).address request
    (map char_of heard) reason) same again.reply.0) is.reply.0)
same_accepted numbers heard before after other (Ok reply) (Ok another) is again =
    grind (arith, common_steps, frames_are_unambiguous-one_list, replies_are_decided-one_reply)

-- the numbers determine whether the frame is accepted as a reply to the request, and if not, why
same_judged : (numbers heard : HartFrame) (said tale : Result Reply Unaccepted) → AcceptsFrame numbers heard said
    → AcceptsFrame numbers heard tale → said ≡ tale
same_judged numbers heard (Err reason) (Err another) is again =
    let same = one_asked (frame_in numbers) again.request is.request again.asked is.asked in
    ap (λ (told : Unaccepted). Err told) (one_judged (frame_in numbers).master (frame_in numbers).address is.request (frame_in heard)
    reason another is.judged (subst (λ (request : Request). IsJudged (frame_in numbers).master (frame_in numbers).address request
    (frame_in heard) (Err another)) same again.judged))
same_judged numbers heard (Err reason) (Ok reply) is again =
    let same = one_asked (frame_in numbers) is.request again.request is.asked again.asked in
    absurd (not_judged (frame_in numbers).master (frame_in numbers).address again.request (frame_in heard) reason reply
    (subst (λ (request : Request). IsJudged (frame_in numbers).master (frame_in numbers).address request (frame_in heard) (Err reason))
    same is.judged) again.judged)
same_judged numbers heard (Ok reply) (Err reason) is again =
    let same = one_asked (frame_in numbers) again.request is.request again.asked is.asked in
    absurd (not_judged (frame_in numbers).master (frame_in numbers).address is.request (frame_in heard) reason reply
    (subst (λ (request : Request). IsJudged (frame_in numbers).master (frame_in numbers).address request (frame_in heard) (Err reason))
    same again.judged) is.judged)
same_judged numbers heard (Ok reply) (Ok another) is again = grind (arith, common_steps, replies_are_decided-one_reply)

pub returns-clause-accept_frame : goal.returns-clause-accept_frame
returns-clause-accept_frame c numbers heard acceptance another =
    let checks = accept_frame_checks numbers heard in
    let sound : AreSound (accept_frame_checks numbers heard) = search (rules, needs-sound) in
    one_outcome
    (λ is again. grind (arith, same_judged numbers heard is.0 again.0 is.1 again.1))
    (λ is why. first_none checks sound is.1.passed why.0 why.1)
    (λ why is. first_none checks sound is.1.passed why.0 why.1)
    (λ why again. grind (arith, first_one checks sound why.0 again.0))

pub returns-clause-matches : goal.returns-clause-matches
returns-clause-matches c request frame matched another =
    let checks = match_checks request frame in
    let sound : AreSound (match_checks request frame) = search (rules, needs-sound) in
    one_outcome
    (λ is again. grind (arith, is.1.1, again.1.1))
    (λ is why. first_none checks sound is.1.0 why.0 why.1)
    (λ why is. first_none checks sound is.1.0 why.0 why.1)
    (λ why again. grind (arith, first_one checks sound why.0 again.0))

pub returns-clause-accept : goal.returns-clause-accept
returns-clause-accept c numbers heard before after other acceptance another =
    let checks = accept_checks numbers heard in
    let sound = accept_sound numbers heard in
    one_outcome
    (λ is again. grind (arith, same_accepted numbers heard before after other is.0 again.0 is.1 again.1))
    (λ is why. first_none checks sound is.1.passed why.0 why.1)
    (λ why is. first_none checks sound is.1.passed why.0 why.1)
    (λ why again. grind (arith, first_one checks sound why.0 again.0))
