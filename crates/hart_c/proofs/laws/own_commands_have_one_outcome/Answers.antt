use Rattle.std.proofs.Common.{◌≡◌, ◌∙◌, ap, arith, inl, inr, length, map, sym, ℕ, Bool, List, [], ◌∷◌, Ok, Err}
use Rattle.std.specs.Prelude.{Some}
use Rattle.hart_frame.proofs.lemmas.Laws.{frames_are_unambiguous-one_list}
use Rattle.hart_device.specs.answer.Own.{after_own, own_reply}
use Rattle.hart_c.specs.Device.{IsSaid}
use Rattle.hart_c.specs.Faults.{AllPass, outcome_of}
use Rattle.hart_c.specs.Find.{char_of}
use Rattle.hart_c.specs.Messages.{HasNoRoom}
use Rattle.hart_c.specs.Numbers.{found_in, frame_in, parts_of}
use Rattle.hart_c.specs.Own.{AnswersOwn, IsOwnAnswer, answer_checks, own_checks}
use Rattle.hart_c.specs.declared.device.HartDevice.{HartDevice}
use Rattle.hart_c.specs.declared.fault.Fault.{Fault}
use Rattle.hart_c.specs.declared.frame.HartFrame.{HartFrame}
use Rattle.hart_c.specs.declared.identity.HartIdentity.{HartIdentity}
use Rattle.hart_c.specs.declared.process.HartProcess.{HartProcess}
use Rattle.hart_c.proofs.Checks.{AreSound, first_none, first_one, needs-sound, refused_if-sound}
use Rattle.hart_c.proofs.Kept.{devices_are_kept-one_state, state_sound}
use Rattle.hart_c.proofs.Checks.{one_outcome, one_said, said_fits}
use Rattle.hart_c.proofs.laws.own_commands_have_one_outcome.Goals.{After-bytes_have_one_image_fault}
use Rattle.hart_c.proofs.laws.own_commands_have_one_outcome.Goals as goal

pub returns-clause-hear : goal.returns-clause-hear
returns-clause-hear c identity process own heard before after other shown asked again old new newer told another (inl is) (inl same) =
    let one = frames_are_unambiguous-one_list (map char_of heard) 0 (found_in asked ∷ []) (found_in again ∷ []) is.0.alone same.0.alone in
    (is.2 ∙ sym same.2, is.3 ∙ sym same.3, grind (arith, one), is.4 ∙ sym same.4)
returns-clause-hear c identity process own heard before after other shown asked again old new newer told another (inl is) (inr same) =
    absurd (same.0 asked is.0)
returns-clause-hear c identity process own heard before after other shown asked again old new newer told another (inr is) (inl same) =
    absurd (is.0 again same.0)
returns-clause-hear c identity process own heard before after other shown asked again old new newer told another (inr is) (inr same) =
    let one = c.calls_have_one_outcome.ensures.hear identity process heard before after other old new newer
    (record { len = told.len; fault = told.fault }) (record { len = another.len; fault = another.fault }) is.3 same.3 in
    (grind (arith, one.0, is.1, same.1), one.1, ap found_in (is.2 ∙ sym same.2), one.2)

-- the lemmas for a device that answers a request of the maker's own
module _ (identity : HartIdentity) (process : HartProcess) (asked : HartFrame) (code : ℕ) (is_write : Bool) (bytes : List ℕ)
    (device : HartDevice) where
  -- the numbers determine the state and the process
  one_answer : (is again : IsOwnAnswer identity process asked device) → (is.state ≡ again.state) × (is.measured ≡ again.measured)
  one_answer is again =
      grind (arith, devices_are_kept-one_state (parts_of identity) device is.state again.state is.kept again.kept)

  -- the checks of an answer are sound
  answer_sound : (c : After-bytes_have_one_image_fault) (room : ℕ)
      → AreSound (answer_checks identity process asked code is_write bytes device room)
  answer_sound c room =
      let (who, (fits, (kept, end))) = state_sound c.bytes_have_one_image_fault.ensures identity device in
      let own : AreSound (own_checks identity process asked code is_write bytes device room) =
      (needs-sound _ _, (needs-sound _ _, (needs-sound _ _, (refused_if-sound _ _, tt)))) in
      (who, (fits, (kept, (needs-sound _ _, (needs-sound _ _, (needs-sound _ _, (needs-sound _ _, own)))))))

  answer_passes : (after : HartDevice) (old new : List ℕ) (len : ℕ)
      → AnswersOwn identity process asked code is_write bytes device after old new len
      → AllPass (answer_checks identity process asked code is_write bytes device (length old))
  answer_passes after old new len is =
      let answer = is.answer in
      let (address, (expansion, (payload, end))) = answer.numbers in
      let room : ((other : IsOwnAnswer identity process asked device) × HasNoRoom
      (IsSaid (Some (own_reply (after_own is_write other.state) other.measured (frame_in asked) code bytes)) identity.response_preambles)
      (length old)) → ⊥ =
      λ none.
      let (state, measured) = one_answer none.0 answer in
      said_fits (Some (own_reply (after_own is_write answer.state) answer.measured (frame_in asked) code bytes)) identity.response_preambles
      old new len is.reply (rw (state, measured) at none.1) in
      let own : AllPass (own_checks identity process asked code is_write bytes device (length old)) =
      (answer, (is.code_is, (is.few, (room, tt)))) in (
        answer.kept.is_identity,
        (answer.kept.fits, ((answer.state, answer.kept), (answer.process_is.count, (address, (expansion, (payload, own)))))),
      )

pub returns-clause-answer : goal.returns-clause-answer
returns-clause-answer c identity process asked code is_write bytes before after other old new newer outcome another =
    let checks = answer_checks identity process asked code is_write bytes before (length old) in
    let sound = answer_sound identity process asked code is_write bytes before c (length old) in
    one_outcome
    (λ is again.
    let (state, measured) = one_answer identity process asked code is_write bytes before is.1.answer again.1.answer in
    let reply = Some (own_reply (after_own is_write again.1.answer.state) again.1.answer.measured (frame_in asked) code bytes) in
    let said = one_said reply identity.response_preambles old new newer is.0 again.0 (rw (state, measured) at is.1.reply) again.1.reply in
    let same : after ≡ other = is.1.state ∙ rw state (sym again.1.state) in
    (is.2 ∙ ap (λ (n : ℕ). outcome_of (Ok n)) said.0 ∙ sym again.2, same, said.1))
    (λ is why. first_none checks sound
    (answer_passes identity process asked code is_write bytes before after old new is.0 is.1) why.0 why.1)
    (λ why is. first_none checks sound
    (answer_passes identity process asked code is_write bytes before other old newer is.0 is.1) why.0 why.1)
    (λ why again.
    let same = first_one checks sound why.0 again.0 why.1 again.1 in
    (why.2 ∙ ap (λ (fault : Fault). outcome_of (Err fault)) same ∙ sym again.2, why.3.0 ∙ sym again.3.0, why.3.1 ∙ sym again.3.1))
