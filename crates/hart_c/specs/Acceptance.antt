-- Whether a frame is the reply to a request, and if not, why not, for a caller in C (implementation choice).
use Rattle.std.specs.Prelude.{◌≡◌, ◌≤◌, ◌<◌, ◌++◌, ◌↔◌, ℕ, Bool, IsTrue, true, false, List, [], ◌∷◌, None, Result, Ok, Err, slice_index}
use Rattle.hart_values.specs.declared.{address.Address.Address, master_id.MasterId.MasterId}
use Rattle.hart_frame.specs.wire.FrameParts.{FrameParts}
use Rattle.hart_commands.specs.{RequestData.request_reading, ReplyData.reply_reading}
use Rattle.hart_commands.specs.declared.{reply.Reply.Reply, request.Request.Request}
use Rattle.hart_master.specs.Acceptance.{IsReplyTo, MatchesFrame, MatchesRequest}
use Rattle.hart_master.specs.FrameMaster.{IsRequestFrame}
use Rattle.hart_master.specs.Pairing.{may_ask}
use Rattle.hart_c.specs.Faults.{AllPass, Check, Outcome, needs, number_of}
use Rattle.hart_c.specs.Messages.{frame_checks}
use Rattle.hart_c.specs.Numbers.{frame_in}
use Rattle.hart_c.specs.declared.fault.Fault.{Fault}
use Rattle.hart_c.specs.declared.fault.Fault.TheVariants.{NoRequest, WrongAddress}
use Rattle.hart_c.specs.declared.frame.HartFrame.{HartFrame}
use Rattle.hart_c.specs.declared.master.{Asked.Asked, HartAcceptance.HartAcceptance}
use Rattle.hart_c.specs.declared.reason.Unaccepted.{Unaccepted}
use Rattle.hart_c.specs.declared.reason.Unaccepted.TheVariants.{NoFrame, SeveralFrames, OtherFrame, CommunicationFaults, UnfitData}
use Rattle.hart_c.specs.declared.reply.HartMatch.{HartMatch}

-- The number in C of each reason.
abbrev pub reason_number : Unaccepted → ℕ
reason_number NoFrame = 1
reason_number SeveralFrames = 2
reason_number OtherFrame = 3
reason_number CommunicationFaults = 4
reason_number UnfitData = 5

-- A frame carries a request if it is a request frame of a master and its data are read as this request.
pub record IsAsked (frame : FrameParts) (request : Request) : Type 0 where
  pub parts : IsRequestFrame frame
  pub reading : request_reading frame.command frame.payload ≡ Ok request

-- The master, the address and the command of a request's frame, by which its reply is recognized.
abbrev pub asked_in : FrameParts → Asked
asked_in frame = record { master = frame.master; address = frame.address; command = frame.command }

-- The checks of a request, in this order: the fields of the `HartFrame` make a frame; the frame carries a request; this request may be sent
-- to the frame's address.
abbrev pub request_checks : HartFrame → List Check
request_checks numbers =
    frame_checks numbers ++ needs ((request : Request) × IsAsked (frame_in numbers) request) NoRequest
    ∷ needs ((request : Request) × IsAsked (frame_in numbers) request × (may_ask (frame_in numbers).address request ≡ true)) WrongAddress
    ∷ []

-- The checks of a request of any command, in this order: the fields of the `HartFrame` make a frame; this frame is a request of a master.
abbrev pub request_frame_checks : HartFrame → List Check
request_frame_checks numbers = frame_checks numbers ++ needs (IsRequestFrame (frame_in numbers)) NoRequest ∷ []

-- The checks of a call that compares two frames: first the checks of the request, then the checks of the other frame.
abbrev pub match_checks : HartFrame → HartFrame → List Check
match_checks request frame = request_frame_checks request ++ frame_checks frame

-- The result of a comparison in C: whether the frame is a reply to the request, or the number of the fault.
abbrev pub match_of : Result Bool Fault → HartMatch
match_of (Ok is_reply) = record { is_reply = is_reply; fault = 0 }
match_of (Err fault) = record { is_reply = false; fault = number_of fault }

-- If all checks pass, the result says whether the frame is a reply with the request's master, address and command. Otherwise the result has
-- the first fault.
abbrev pub MatchOutcome : HartFrame → HartFrame → HartMatch → Type 0
MatchOutcome request frame =
    Outcome (match_checks request frame)
    (λ is. AllPass (match_checks request frame) × (IsTrue is ↔ MatchesFrame (frame_in request) (frame_in frame))) (Unit {0}) match_of

-- The result of judging a frame as the reply to this request. Either the frame is the reply. Or the reason is one of three: the frame does
-- not answer the request, it answers with communication faults, or its payload is no reply to the command.
abbrev pub IsJudged : MasterId → Address → Request → FrameParts → Result Reply Unaccepted → Type 0
IsJudged id address request frame (Ok reply) = IsReplyTo id address request frame reply
IsJudged id address request frame (Err NoFrame) = ⊥
IsJudged id address request frame (Err SeveralFrames) = ⊥
IsJudged id address request frame (Err OtherFrame) = MatchesRequest id address request frame → ⊥
IsJudged id address request frame (Err CommunicationFaults) =
    MatchesRequest id address request frame × (128 ≤ slice_index frame.payload 0)
IsJudged id address request frame (Err UnfitData) =
    MatchesRequest id address request frame × (slice_index frame.payload 0 < 128) × (reply_reading frame.command frame.payload ≡ None)

-- The checks of `hart_accept_frame`: first the checks of the request, then the checks of the other frame.
abbrev pub accept_frame_checks : HartFrame → HartFrame → List Check
accept_frame_checks numbers heard = request_checks numbers ++ frame_checks heard

-- The request and the frame pass all checks. `said` is the result of judging the frame as the reply to this request.
pub record AcceptsFrame (numbers heard : HartFrame) (said : Result Reply Unaccepted) : Type 0 where
  pub passed : AllPass (accept_frame_checks numbers heard)
  pub request : Request
  pub asked : IsAsked (frame_in numbers) request
  pub judged : IsJudged (frame_in numbers).master (frame_in numbers).address request (frame_in heard) said

-- The result in C. An accepted reply gives its response code and its device status. Without a reply both are 0, and there is a reason. With
-- a fault, the result has the number of the fault.
abbrev pub acceptance_of : Result (Result Reply Unaccepted) Fault → HartAcceptance
acceptance_of (Ok (Ok reply)) = record { is_accepted = true; code = reply.code; status = reply.status.0; fault = 0; reason = 0 }
acceptance_of (Ok (Err reason)) = record { is_accepted = false; code = 0; status = 0; fault = 0; reason = reason_number reason }
acceptance_of (Err fault) = record { is_accepted = false; code = 0; status = 0; fault = number_of fault; reason = 0 }

-- If all checks pass, the result has the accepted reply, or the reason why the frame is not accepted. Otherwise the result has the first
-- fault.
abbrev pub AcceptFrameOutcome : HartFrame → HartFrame → HartAcceptance → Type 0
AcceptFrameOutcome numbers heard =
    Outcome (accept_frame_checks numbers heard) (AcceptsFrame numbers heard) (Unit {0}) acceptance_of
