-- The laws of replies and of what is accepted, for the proofs of this crate and of the crates above it.
use Rattle.std.proofs.Common.{◌≡◌, ◌<◌, List, [], ◌∷◌, ◌⊎◌, inl, inr, length, Option, None, Some, refl, arith, ◌≤◌, rules, slice_index}
use Rattle.std.proofs.lemmas.List.{nil_from_length}
use Rattle.hart_values.specs.declared.address.Address.{Address}
use Rattle.hart_values.specs.declared.master_id.MasterId.{MasterId}
use Rattle.hart_frame.specs.declared.heard.found.Found.{Found}
use Rattle.hart_frame.specs.heard.Character.{Character}
use Rattle.hart_frame.specs.heard.Frames.{AreFrames}
use Rattle.hart_frame.specs.wire.FrameParts.{FrameParts}
use Rattle.hart_frame.proofs.lemmas.Laws.{every_list_has_frames, frames_are_unambiguous-one_list}
use Rattle.hart_commands.specs.ReplyData.{reply_reading}
use Rattle.hart_commands.specs.declared.reply.Reply.{Reply}
use Rattle.hart_commands.specs.declared.request.Request.{Request}
use Rattle.hart_master.specs.Acceptance.{IsReplyTo, IsAccepted, MatchesRequest}
use Rattle.std.proofs.lemmas.Bool.Decides.{nat_tests}

-- there is a reply with a property, or no such reply
abbrev pub OneOrNone : (Reply → Type 0) → Type 0
OneOrNone P = ((reply : Reply) × P reply) ⊎ ((reply : Reply) → P reply → ⊥)

reading_decided : (read : Option Reply) → OneOrNone (λ reply. read ≡ Some reply)
reading_decided None = inr (λ reply is. cc)
reading_decided (Some reply) = inl (reply, refl)

-- a frame is a reply to a request, or it is no reply to it
pub replies_are_decided-decided : (id : MasterId) (address : Address) (request : Request) (frame : FrameParts)
    → OneOrNone (IsReplyTo id address request frame)
replies_are_decided-decided id address request frame =
    let expansion : (length frame.expansion ≡ 0) ⊎ (0 < length frame.expansion) = grind arith in
    let answers : MatchesRequest id address request frame ⊎ (MatchesRequest id address request frame → ⊥) =
    grind (arith, nil_from_length) in
    grind (arith, reading_decided (reply_reading frame.command frame.payload))

-- if a delivery with one frame is accepted as a reply, the frame is this reply
pub acceptance_is_decided-by_its_frame : (id : MasterId) (address : Address) (request : Request) (delivery : List Character)
    (found : Found) (reply : Reply) → AreFrames delivery 0 (found ∷ [])
    → IsAccepted id address request delivery reply → IsReplyTo id address request found.frame reply
acceptance_is_decided-by_its_frame id address request delivery found reply alone accepted =
    grind (arith, frames_are_unambiguous-one_list delivery 0 (found ∷ []) (accepted.found ∷ []))

-- a delivery is accepted as a reply, or it is not accepted
decided_by : (id : MasterId) (address : Address) (request : Request) (chars : List Character) (frames : List Found)
    → AreFrames chars 0 frames → OneOrNone (IsAccepted id address request chars)
decided_by id address request chars (found ∷ []) are = elim (replies_are_decided-decided id address request found.frame) [
  | inl one ↦ inl (one.0, record { found = found; alone = are; is_reply = one.1 })
  | inr nothing ↦ inr (λ reply accepted. nothing reply (acceptance_is_decided-by_its_frame _ _ _ _ found reply are accepted))
]
decided_by id address request chars frames are =
    inr (λ reply accepted. let same = frames_are_unambiguous-one_list chars 0 frames (accepted.found ∷ []) are accepted.alone in cc)

pub acceptance_decided : (id : MasterId) (address : Address) (request : Request) (chars : List Character)
    → OneOrNone (IsAccepted id address request chars)
acceptance_decided id address request chars =
    let (frames, are) = every_list_has_frames chars 0 in decided_by id address request chars frames are

pub replies_are_decided-one_reply : (id : MasterId) (address : Address) (request : Request) (frame : FrameParts) (r s : Reply)
    → IsReplyTo id address request frame r → IsReplyTo id address request frame s → r ≡ s
replies_are_decided-one_reply id address request frame r s p q = search rules

pub communication_faults_are_no_reply-frame : (id : MasterId) (address : Address) (request : Request) (frame : FrameParts) (reply : Reply)
    → 128 ≤ slice_index frame.payload 0 → IsReplyTo id address request frame reply → ⊥
communication_faults_are_no_reply-frame id address request frame reply above is = grind (arith, nat_tests)
