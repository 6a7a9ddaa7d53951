-- Which deliveries a caller in C accepts as a reply, in the same way as a master (implementation choice).
use Rattle.std.specs.Prelude.{◌≡◌, ◌++◌, true, false, List, Option, Some, Result, Ok, Err, map}
use Rattle.hart_values.specs.declared.{address.Address.Address, address.Address.TheVariants.Unique, master_id.MasterId.MasterId}
use Rattle.hart_frame.specs.heard.{Character.Character, Frames.IsLone}
use Rattle.hart_frame.specs.declared.scan.first.LoneFrame.{LoneFrame}
use Rattle.hart_frame.specs.declared.scan.first.LoneFrame.TheVariants.{NoFrame, Alone, Several}
use Rattle.hart_commands.specs.{declared.reply.Reply.Reply, declared.request.Request.Request}
use Rattle.hart_master.specs.{Acceptance.IsAccepted}
use Rattle.hart_c.specs.Acceptance.{IsAsked, IsJudged, acceptance_of, request_checks}
use Rattle.hart_c.specs.Faults.{AllPass, Check, Outcome}
use Rattle.hart_c.specs.{Find.char_of, Find.heard_checks, Numbers.IsTidy, Numbers.found_in, Numbers.frame_in}
use Rattle.hart_c.specs.declared.{find.HartChar.HartChar, frame.HartFrame.HartFrame}
use Rattle.hart_c.specs.declared.{master.HartAcceptance.HartAcceptance, master.HartUnique.HartUnique}
use Rattle.hart_c.specs.declared.reason.Unaccepted.{Unaccepted}
use Rattle.hart_c.specs.declared.reason.Unaccepted.TheVariants as reasons

-- The checks of `hart_accept`: first the checks of the request, then the checks of the characters.
abbrev pub accept_checks : HartFrame → List HartChar → List Check
accept_checks numbers heard = request_checks numbers ++ heard_checks heard

-- The reason why a delivery is not accepted: it has no frame, it has several frames, or the reason why its only frame is not accepted.
abbrev pub IsReason : MasterId → Address → Request → LoneFrame → Unaccepted → Type 0
IsReason id address request NoFrame reason = reason ≡ reasons.NoFrame
IsReason id address request Several reason = reason ≡ reasons.SeveralFrames
IsReason id address request (Alone found) reason = IsJudged id address request found.frame (Err reason)

-- A delivery is not accepted for this reason.
abbrev pub IsUnaccepted : MasterId → Address → Request → List Character → Unaccepted → Type 0
IsUnaccepted id address request chars reason =
    (frames : LoneFrame) × IsLone chars frames × IsReason id address request frames reason

-- If a reply to the request is accepted, its frame is written to the caller's `HartFrame`. Otherwise there is a reason, and the `HartFrame`
-- is unchanged.
abbrev pub IsShownReply : MasterId → Address → Request → List Character → HartFrame → HartFrame → Result Reply Unaccepted → Type 0
IsShownReply id address request chars before after (Ok reply) =
    (accepted : IsAccepted id address request chars reply) × (found_in after ≡ accepted.found) × IsTidy after
IsShownReply id address request chars before after (Err reason) = IsUnaccepted id address request chars reason × (after ≡ before)

-- All checks pass. `said` is the reply that a master with this request accepts, or the reason why the master accepts none.
pub record Accepts (numbers : HartFrame) (heard : List HartChar) (before after : HartFrame) (said : Result Reply Unaccepted) : Type 0 where
  pub passed : AllPass (accept_checks numbers heard)
  pub request : Request
  pub asked : IsAsked (frame_in numbers) request
  pub reply : IsShownReply (frame_in numbers).master (frame_in numbers).address request (map char_of heard) before after said

-- If all checks pass, the result has the accepted reply, or says why no reply was accepted. Otherwise the result has the first fault, and
-- the caller's `HartFrame` is unchanged.
abbrev pub AcceptOutcome : HartFrame → List HartChar → HartFrame → HartFrame → HartAcceptance → Type 0
AcceptOutcome numbers heard before after =
    Outcome (accept_checks numbers heard) (Accepts numbers heard before after) (after ≡ before) acceptance_of

-- A unique address as a `HartUnique`. For a polling address, or without an address, `is_given` is false and the other fields are 0.
abbrev pub given_of : Option Address → HartUnique
given_of (Some (Unique numbers)) = record { is_given = true; expanded_type = numbers.expanded_type; device_id = numbers.device_id }
given_of _ = record { is_given = false; expanded_type = 0; device_id = 0 }
