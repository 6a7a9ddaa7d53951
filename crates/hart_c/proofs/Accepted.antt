-- What a master accepts is determined by the request and the delivery.
use Rattle.std.proofs.Common.{◌≡◌, List, [], ◌∷◌, Err, arith, refl}
use Rattle.hart_values.specs.declared.{address.Address.Address, master_id.MasterId.MasterId}
use Rattle.hart_frame.specs.declared.scan.first.LoneFrame.{LoneFrame}
use Rattle.hart_frame.specs.declared.scan.first.LoneFrame.TheVariants.{NoFrame, Alone, Several}
use Rattle.hart_frame.specs.{heard.Character.Character, heard.Frames.IsLone, wire.FrameParts.FrameParts}
use Rattle.hart_frame.proofs.lemmas.Laws.{frames_are_unambiguous-one_list}
use Rattle.hart_commands.specs.declared.{reply.Reply.Reply, request.Request.Request}
use Rattle.hart_master.specs.Acceptance.{IsAccepted, IsReplyTo}
use Rattle.hart_master.proofs.lemmas.Laws.{acceptance_is_decided-by_its_frame, communication_faults_are_no_reply-frame}
use Rattle.hart_c.specs.Acceptance.{IsJudged}
use Rattle.hart_c.specs.Master.{IsReason, IsUnaccepted}
use Rattle.hart_c.specs.declared.reason.Unaccepted.{Unaccepted}
use Rattle.hart_c.specs.declared.reason.Unaccepted.TheVariants as reasons

-- a delivery has no frame, one frame or several frames, and only one of these is true
one_lone : (chars : List Character) (lone other : LoneFrame) → IsLone chars lone → IsLone chars other → lone ≡ other
one_lone chars NoFrame NoFrame is again = refl
one_lone chars Several Several is again = refl
one_lone chars (Alone found) (Alone another) is again =
    let same = frames_are_unambiguous-one_list chars 0 (found ∷ []) (another ∷ []) is again in cc
one_lone chars NoFrame (Alone another) is again =
    let same = frames_are_unambiguous-one_list chars 0 [] (another ∷ []) is again in absurd cc
one_lone chars (Alone found) NoFrame is again =
    let same = frames_are_unambiguous-one_list chars 0 (found ∷ []) [] is again in absurd cc
one_lone chars NoFrame Several is (a, b, more, again) =
    let same = frames_are_unambiguous-one_list chars 0 [] (a ∷ b ∷ more) is again in absurd cc
one_lone chars Several NoFrame (a, b, more, is) again =
    let same = frames_are_unambiguous-one_list chars 0 (a ∷ b ∷ more) [] is again in absurd cc
one_lone chars (Alone found) Several is (a, b, more, again) =
    let same = frames_are_unambiguous-one_list chars 0 (found ∷ []) (a ∷ b ∷ more) is again in absurd cc
one_lone chars Several (Alone found) (a, b, more, is) again =
    let same = frames_are_unambiguous-one_list chars 0 (a ∷ b ∷ more) (found ∷ []) is again in absurd cc

-- a frame that is not accepted is no reply
pub not_judged : (id : MasterId) (address : Address) (request : Request) (frame : FrameParts) (reason : Unaccepted) (reply : Reply)
    → IsJudged id address request frame (Err reason) → IsReplyTo id address request frame reply → ⊥
not_judged id address request frame reasons.NoFrame reply why is = why
not_judged id address request frame reasons.SeveralFrames reply why is = why
not_judged id address request frame reasons.OtherFrame reply why is = why is.answers
not_judged id address request frame reasons.CommunicationFaults reply why is =
    communication_faults_are_no_reply-frame id address request frame reply why.1 is
not_judged id address request frame reasons.UnfitData reply why is = let read = is.read in let none = why.2 in cc

-- a frame is not accepted for only one reason
pub one_judged : (id : MasterId) (address : Address) (request : Request) (frame : FrameParts) (reason another : Unaccepted)
    → IsJudged id address request frame (Err reason) → IsJudged id address request frame (Err another) → reason ≡ another
one_judged id address request frame reason another why because = grind arith

-- a delivery that is not accepted for some reason brings no reply
pub not_accepted : (id : MasterId) (address : Address) (request : Request) (chars : List Character) (reason : Unaccepted) (reply : Reply)
    → IsUnaccepted id address request chars reason → IsAccepted id address request chars reply → ⊥
not_accepted id address request chars reason reply (Alone found, is, why) accepted =
    not_judged id address request found.frame reason reply why
    (acceptance_is_decided-by_its_frame id address request chars found reply is accepted)
not_accepted id address request chars reason reply (NoFrame, is, why) accepted =
    let same = one_lone chars NoFrame (Alone accepted.found) is accepted.alone in absurd cc
not_accepted id address request chars reason reply (Several, is, why) accepted =
    let same = one_lone chars Several (Alone accepted.found) is accepted.alone in absurd cc

-- if two findings about the frames of a delivery are equal, they give the same reason why nothing is accepted
same_reason : (id : MasterId) (address : Address) (request : Request) (frames other : LoneFrame) (reason another : Unaccepted)
    → frames ≡ other → IsReason id address request frames reason → IsReason id address request other another → reason ≡ another
same_reason id address request (Alone found) (Alone same) reason another is why because =
    grind (arith, one_judged id address request found.frame reason another)
same_reason id address request frames other reason another is why because = grind arith

-- a delivery is not accepted for only one reason
pub one_reason : (id : MasterId) (address : Address) (request : Request) (chars : List Character) (reason another : Unaccepted)
    → IsUnaccepted id address request chars reason → IsUnaccepted id address request chars another → reason ≡ another
one_reason id address request chars reason another (frames, is, why) (other, again, because) =
    same_reason id address request frames other reason another (one_lone chars frames other is again) why because
