use Rattle.std.proofs.Common.{ℕ, List, arith, length, rules}
use Rattle.hart_master.specs.FrameMaster.{frame_due}
use Rattle.hart_c.specs.Faults.{AllPass}
use Rattle.hart_c.specs.FrameMaster.{Sends, receive_checks, send_checks, submit_checks}
use Rattle.hart_c.specs.declared.frame_master.HartMaster.{HartMaster}
use Rattle.hart_c.proofs.Checks.{AreSound, first_none, first_one, needs-sound, refused_if-sound}
use Rattle.hart_c.proofs.Masters.{one_master, one_received}
use Rattle.hart_c.proofs.Checks.{one_outcome, one_said, said_fits}
use Rattle.hart_c.proofs.laws.masters_have_one_outcome.Goals as goal

pub returns-clause-submit : goal.returns-clause-submit
returns-clause-submit c request before after other told another =
    let checks = submit_checks request before in
    let sound : AreSound (submit_checks request before) = search (rules, needs-sound) in
    one_outcome
    (λ is again. let same = one_master before is.1.1 again.1.1 is.1.2.was again.1.2.was in
    grind (arith, same, is.1.2.is, again.1.2.is, is.2, again.2))
    (λ is why. first_none checks sound is.1.0 why.0 why.1)
    (λ why is. first_none checks sound is.1.0 why.0 why.1)
    (λ why again. grind (arith, first_one checks sound why.0 again.0))

pub returns-clause-receive : goal.returns-clause-receive
returns-clause-receive c frame before after other told another =
    let checks = receive_checks frame before in
    let sound : AreSound (receive_checks frame before) = search (rules, needs-sound) in
    one_outcome
    (λ is again. let same = one_master before is.1.1 again.1.1 is.1.2.was again.1.2.was in
    let event = one_received is.1.1.hand _ is.0 again.0 is.1.3 (rw same again.1.3) in
    grind (arith, same, event, is.1.2.is, again.1.2.is, is.2, again.2))
    (λ is why. first_none checks sound is.1.0 why.0 why.1)
    (λ why is. first_none checks sound is.1.0 why.0 why.1)
    (λ why again. grind (arith, first_one checks sound why.0 again.0))

-- a request that was sent passed all checks
sent_passes : (preambles : ℕ) (before after : HartMaster) (old new : List ℕ) (len : ℕ) → Sends preambles before after old new len
    → AllPass (send_checks preambles before (length old))
sent_passes preambles before after old new len is = (
  (is.state, is.becomes.was),
  (
    is.preamble,
    (
      λ none.
          said_fits _ _ _ _ _ is.written (rw (one_master before is.state none.0 is.becomes.was none.1) none.2),
      tt,
    ),
  ),
)

pub returns-clause-send : goal.returns-clause-send
returns-clause-send c preambles before after other old new newer outcome another =
    let checks = send_checks preambles before (length old) in
    let sound : AreSound (send_checks preambles before (length old)) = search (rules, needs-sound, refused_if-sound) in
    one_outcome
    (λ is again. let same = one_master before is.1.state again.1.state is.1.becomes.was again.1.becomes.was in
    let said = one_said (frame_due is.1.state.hand) preambles old new newer is.0 again.0 is.1.written (rw same again.1.written) in
    grind (arith, same, said, is.1.becomes.is, again.1.becomes.is, is.2, again.2))
    (λ is why. first_none checks sound (sent_passes preambles before after old new is.0 is.1) why.0 why.1)
    (λ why is. first_none checks sound (sent_passes preambles before other old newer is.0 is.1) why.0 why.1)
    (λ why again. grind (arith, first_one checks sound why.0 again.0))
