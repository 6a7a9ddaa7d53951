use Rattle.std.proofs.Common.{◌↔◌, List, [], ◌∷◌, arith}
use Rattle.hart_values.specs.declared.master_id.MasterId.{MasterId}
use Rattle.hart_frame.specs.declared.heard.found.Found.{Found}
use Rattle.hart_frame.specs.heard.Character.{Character}
use Rattle.hart_frame.specs.heard.Frames.{AreFrames}
use Rattle.hart_commands.specs.declared.reply.Reply.{Reply}
use Rattle.hart_master.specs.Master.{DeliveryBrings, FrameBrings, IsHeard}
use Rattle.hart_master.specs.declared.event.MasterEvent.{MasterEvent}
use Rattle.hart_master.specs.declared.hand.Hand.{Hand}
use Rattle.hart_master.proofs.lemmas.Laws.{acceptance_is_decided-by_its_frame}
use Rattle.hart_master.proofs.master.Master.hear.Goals as goal

-- a delivery with one frame brings what that frame brings
same_brought : (id : MasterId) (hand : Hand) (chars : List Character) (found : Found) (reply : Reply)
    → AreFrames chars 0 (found ∷ []) → FrameBrings id hand found.frame reply ↔ DeliveryBrings id hand chars reply
same_brought id hand chars found reply alone = grind (arith, acceptance_is_decided-by_its_frame)

-- two conditions that hold for the same replies lead to the same event
same_heard : (hand : Hand) (P Q : Reply → Type 0) (event : MasterEvent) → ((reply : Reply) → P reply ↔ Q reply)
    → IsHeard hand P event → IsHeard hand Q event
same_heard hand P Q event same heard = grind arith

pub returns-in-Alone-clause-event : goal.returns-in-Alone-clause-event
returns-in-Alone-clause-event c = search (arith, same_heard, same_brought, c.in-Alone.ensures.lone, c.receive.ensures.event)

pub returns-in-Alone-clause-answered : goal.returns-in-Alone-clause-answered
returns-in-Alone-clause-answered c = λ reply. search (arith, same_brought, c.in-Alone.ensures.lone, c.receive.ensures.answered reply)

pub returns-in-Alone-clause-nothing : goal.returns-in-Alone-clause-nothing
returns-in-Alone-clause-nothing c = λ none.
    c.receive.ensures.nothing (λ reply brings. none reply ((same_brought _ _ _ c.in-Alone.found reply c.in-Alone.ensures.lone).0 brings))
