-- What the caller keeps of a master.
use Rattle.std.proofs.Common.{◌≡◌, ◌⊎◌, inl, inr, IsTrue, true, false, Ok, Err, arith, refl, rules}
use Rattle.hart_frame.specs.wire.FrameParts.{FrameParts}
use Rattle.hart_master.specs.FrameMaster.{FrameMasterState, IsReceived, hand_submitted, is_idle, result_submitted}
use Rattle.hart_master.specs.Pairing.{may_send}
use Rattle.hart_master.specs.declared.frame_event.{FrameEvent.FrameEvent, RejectedFrame.RejectedFrame}
use Rattle.hart_master.specs.declared.frame_hand.FrameHand.{FrameHand}
use Rattle.hart_master.specs.declared.frame_hand.FrameHand.TheVariants as hands
use Rattle.hart_master.specs.declared.frame_hand.FrameTransaction.{FrameTransaction}
use Rattle.hart_c.specs.Acceptance.{request_frame_checks}
use Rattle.hart_c.specs.Faults.{AllPass, IsFirstOf}
use Rattle.hart_c.specs.FrameMaster.{Becomes, IsInHand, IsMaster, IsTransaction, master_of, submit_checks, submit_fault}
use Rattle.hart_c.specs.Messages.{IsFrame, frame_checks}
use Rattle.hart_c.specs.Numbers.{frame_in}
use Rattle.hart_c.specs.declared.fault.Fault.{Fault}
use Rattle.hart_c.specs.declared.fault.Fault.TheVariants.{Pending, WrongAddress}
use Rattle.hart_c.specs.declared.frame.HartFrame.{HartFrame}
use Rattle.hart_c.specs.declared.frame_master.HartMaster.{HartMaster}
use Rattle.hart_c.proofs.Checks.{first_none, needs-sound}

-- numbers that are refused are no frame
pub no_frame_numbers : (frame : HartFrame) (fault : Fault) → IsFirstOf (frame_checks frame) fault → IsFrame frame → ⊥
no_frame_numbers frame fault why is = first_none (frame_checks frame) (search (rules, needs-sound)) is fault why

-- the numbers of a kept master describe at most one thing in hand
pub one_hand : (master : HartMaster) (hand other : FrameHand) → IsInHand master hand → IsInHand master other → hand ≡ other
one_hand master hand other is again = grind arith

pub one_master : (master : HartMaster) (state other : FrameMasterState) → IsMaster master state → IsMaster master other → state ≡ other
one_master master state other is again =
    let hand = one_hand master state.hand other.hand is.hand again.hand in grind (arith, is.retries, is.reply_limit)

-- a kept master that is not idle has a request
pub has_transaction : (master : HartMaster) (hand : FrameHand) → (master.state ≡ 0 → ⊥) → IsInHand master hand
    → (transaction : FrameTransaction) × IsTransaction master transaction
has_transaction master hands.Empty some is = absurd (some is)
has_transaction master (hands.Due transaction) some is = (transaction, is.1)
has_transaction master (hands.Awaiting transaction time) some is = (transaction, is.1)
has_transaction master (hands.Answered transaction) some is = (transaction, is.1)

idle_or : (hand : FrameHand) → (is_idle hand ≡ true) ⊎ (is_idle hand ≡ false)
idle_or hand = grind arith

-- a request that a master does not take is refused by a check
pub submit_refused : (request : HartFrame) (before : HartMaster) (state : FrameMasterState) (frame : FrameParts) (rejected : RejectedFrame)
    (fault : Fault) → frame ≡ frame_in request → IsMaster before state → AllPass (request_frame_checks request)
    → result_submitted state.hand frame ≡ Err rejected → fault ≡ submit_fault rejected.fault
    → IsFirstOf (submit_checks request before) fault
submit_refused request before state frame rejected fault same is passed said told =
    let (address, (expansion, (payload, (asked, end)))) = passed in
    elim (idle_or state.hand) [
      | inl idle ↦
          let none : IsTrue (may_send (frame_in request)) → ⊥ = grind (arith, idle, said, same) in
          let named : fault ≡ WrongAddress = grind (arith, idle, said, same, told) in
          let free : IsTrue (is_idle state.hand) = grind (arith, idle) in
          inr ((state, is), inr (address, inr (expansion, inr (payload, inr (asked, inr ((state, is, free), inl (none, named)))))))
      | inr busy ↦
          let none : ((other : FrameMasterState) × IsMaster before other × IsTrue (is_idle other.hand)) → ⊥ =
          λ other. grind (arith, one_master before state other.0 is other.1, busy, other.2) in
          let named : fault ≡ Pending = grind (arith, busy, said, told) in
          inr ((state, is), inr (address, inr (expansion, inr (payload, inr (asked, inl (none, named))))))
    ]

-- a request that a master takes is in hand
pub submit_taken : (request : HartFrame) (before after : HartMaster) (state : FrameMasterState) (frame : FrameParts)
    → frame ≡ frame_in request → IsMaster before state → AllPass (request_frame_checks request)
    → result_submitted state.hand frame ≡ Ok tt
    → after ≡ master_of (record state { hand = hand_submitted state.hand frame }) request
    → AllPass (submit_checks request before) × Becomes before after request state (hand_submitted state.hand (frame_in request))
submit_taken request before after state frame same is passed said written =
    let (address, (expansion, (payload, (asked, end)))) = passed in
    let idle : is_idle state.hand ≡ true = grind (arith, said) in
    let may : may_send (frame_in request) ≡ true = grind (arith, said, idle, same) in
    let due : hand_submitted state.hand (frame_in request) ≡ hands.Due (record { request = frame_in request; sendings = 0 }) =
    grind (arith, idle, may) in
    let numbers : IsFrame request = (address, (expansion, (payload, tt))) in
    let kept : IsMaster (master_of (record state { hand = hands.Due (record { request = frame_in request; sendings = 0 }) }) request)
    (record state { hand = hands.Due (record { request = frame_in request; sendings = 0 }) }) = record {
      retries = refl;
      reply_limit = refl;
      limits = is.limits;
      hand = (refl, record { numbers = numbers; request = refl; sendings = refl });
      within = ((asked, grind (arith, may)), grind arith);
    } in
    let written_hand : after ≡ master_of (record state { hand = hands.Due (record { request = frame_in request; sendings = 0 }) }) request =
    grind (arith, written, same, due) in (
      ((state, is), (address, (expansion, (payload, (asked, ((state, is, grind (arith, idle)), (grind (arith, may), tt))))))),
      record { was = is; is = grind (arith, written, same); kept = rw (written_hand, due) kept },
    )

-- receiving a frame gives only one event
pub one_received : (hand : FrameHand) (frame : FrameParts) (event other : FrameEvent) → IsReceived hand frame event
    → IsReceived hand frame other → event ≡ other
one_received hand frame event other is again = grind arith
