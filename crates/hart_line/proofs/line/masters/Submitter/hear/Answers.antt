use Rattle.hart_line.proofs.Common.{arith, ◌≡◌, common_steps, Reply, FrameBrings, Accepts, FrameParts, InHand, MasterId, None, Option, Some}
use Rattle.hart_line.proofs.Common.{hand_of, refl, hand_sent}
use Rattle.hart_line.proofs.line.masters.Submitter.hear.Goals as goal

-- a master that is brought no reply accepts no reply
none_accepted : (id : MasterId) (hand : Option InHand) (frame : FrameParts)
    → ((reply : Reply) → FrameBrings id (hand_sent (hand_of hand)) frame reply → ⊥) → Accepts id hand (Some frame) None
none_accepted id None frame none = refl
none_accepted id (Some held) frame none = none

pub returns-in_default : goal.returns-in_default
returns-in_default c =
    let old = c.args.self.now.master in
    let none : (reply : Reply) → FrameBrings old.id old.hand c.in_ok-returned.field-0.now reply → ⊥ = grind (arith, common_steps) in
    let same : c.receive.new.self ≡ old = rw (c.receive.ensures.nothing none) at c.receive.ensures.state in
    record {
      awaited = λ id retries held awaits.
          (rw c.in_ok-returned.was (none_accepted id held _ (rw awaits.master_is at none)), rw same awaits);
      overheard = λ id retries held holds. rw same holds;
    }
