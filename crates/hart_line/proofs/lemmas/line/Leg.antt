-- What arrives in a leg, what the leg brings the device, and what is spoken.
use Rattle.hart_line.proofs.Common.{Bool, IsTrue, IsSome, IfSome, frame_if, ◌≡◌, ℕ, ◌≤◌, ap, refl, arith, Option, None, Some, List, [], ◌∷◌}
use Rattle.hart_line.proofs.Common.{◌++◌, replicate, common_steps, MatchOption, option_to_list, MasterId, Character, FrameParts}
use Rattle.hart_line.proofs.Common.{DeviceState, Brought, BringsBy, Garbled, NoMessage, OneFrame, IdentityParts, Process, Heard, Chars}
use Rattle.hart_line.proofs.Common.{Clean, Spoken, Party, AnswersTo, IsSent, IsSpeakable, AreHeard, Arrives, ArrivesAmong}
use Rattle.hart_line.proofs.Common.{Reaches, ReachesAmong, SpokenFrame, Speaks, frame_of, master_preambles, party_of, spoken_by, AreSpoken}
use Rattle.hart_line.proofs.Common.{sent_by, InHand, messages_have_their_frame_alone-message, messages_have_their_frame_alone-nothing}
use Rattle.hart_frame.specs.heard.Character.{faultless}
use Rattle.hart_frame.specs.wire.Message.{IsMessage}
use Rattle.hart_device.specs.answer.Garbled.{HasGarbled, garbled_reply}
use Rattle.hart_device.specs.declared.answer.garbled.GarbledRequest.{GarbledRequest}

-- WHAT CHARACTERS BRING
-- A frame that arrives is brought to the device.
pub among_frame : (identity : IdentityParts) (chars : List Character) (sent : Option FrameParts) (frame : FrameParts)
    → ArrivesAmong chars sent (Some frame) → ReachesAmong identity chars sent (OneFrame frame)
among_frame identity chars sent frame a = record { frame = Some frame; arrives = a; brings = grind arith }

-- If no frame arrives, the characters bring the device a garbled request or no message.
pub among_none : (identity : IdentityParts) (chars : List Character) (sent : Option FrameParts) (brought : Brought)
    → ArrivesAmong chars sent None → BringsBy identity chars [] brought → ReachesAmong identity chars sent brought
among_none identity chars sent brought a brings = record { frame = None; arrives = a; brings = grind arith }

-- If no frame arrives, the code answers only a garbled request in the characters, with the reply to this request.
pub answered_among : (chars : List Character) (sent : Option FrameParts) (device : DeviceState) (process : Process)
    (answer : Option FrameParts) → ArrivesAmong chars sent None
    → MatchOption answer ((request : GarbledRequest) → HasGarbled device.identity chars request → ⊥)
    (λ reply. (request : GarbledRequest) × HasGarbled device.identity chars request × (reply ≡ garbled_reply device.identity request))
    → AnswersTo (ReachesAmong device.identity chars sent) device process answer device
answered_among chars sent device process None a none = grind (arith, common_steps, among_none)
answered_among chars sent device process (Some reply) a is = record {
  brought = Garbled is.0;
  is_brought = among_none device.identity chars sent (Garbled is.0) a is.1;
  answer_is = ap Some is.2;
  after_is = refl;
}

-- If there is an answer, the frame that is written is this answer.
pub frame_given : (result : Bool) (reply : FrameParts) (answer : Option FrameParts)
    → (IsTrue result → IsSome answer) × (IsSome answer → IsTrue result) → IfSome answer (λ frame. reply ≡ frame)
    → frame_if result reply ≡ answer
frame_given result reply answer same is = grind arith

-- WHAT A LEG BRINGS
-- If no characters are heard, there is no garbled request in them, so nothing arrives and nothing is brought.
pub nothing_arrives : (sent : Option FrameParts) → ArrivesAmong [] sent None
nothing_arrives sent = record { frames = []; are_frames = messages_have_their_frame_alone-nothing; detected = refl }

-- No body starts in a list without characters, so it has no garbled request.
no_start : (prefix : List Character) (first : Character) (rest : List Character)
    → [] ≡ prefix ++ faultless (255 ∷ 255 ∷ []) ++ first ∷ rest → ⊥
no_start [] first rest split = absurd cc
no_start (character ∷ prefix) first rest split = absurd cc

no_garbled : (identity : IdentityParts) (request : GarbledRequest) → HasGarbled identity [] request → ⊥
no_garbled identity request has = no_start has.first_start.start.prefix _ _ has.first_start.start.split

pub nothing_reaches : (identity : IdentityParts) (heard : Heard) (said : Option SpokenFrame) → AreHeard heard said []
    → Reaches identity heard said NoMessage
nothing_reaches identity heard said are =
    let among = among_none identity [] (frame_of said) NoMessage (nothing_arrives (frame_of said)) (no_garbled identity) in
    record { chars = []; are_heard = are; among = among }

-- In a clean leg the frame that was sent arrives, and is brought to the device.
pub message_arrives : (said : SpokenFrame) → IsSpeakable said → Arrives Clean (Some said) (Some said.frame)
message_arrives said is =
    let is_message : IsMessage said.frame said.preambles (replicate said.preambles 255 ++ is.1) =
    record { body = is.1; is_body = is.2; parts = refl } in
    let one = messages_have_their_frame_alone-message said.frame said.preambles _ is.0 is_message in
    record { chars = _; are_heard = (_, is_message, refl); among = record { frames = _; are_frames = one; detected = (refl, refl) } }

pub clean_reaches : (identity : IdentityParts) (frame : FrameParts) (said : Option SpokenFrame)
    → IsSent (Some frame) said → Reaches identity Clean said (OneFrame frame)
clean_reaches identity frame None is = let none = is.frame in cc
clean_reaches identity frame (Some said) is =
    let a = message_arrives said is.speakable in
    record { chars = a.chars; are_heard = a.are_heard; among = grind (arith, is.frame, among_frame) }

-- At noise, the characters of the event are heard, and nothing was sent.
pub noise_answers : (chars : List Character) (device : DeviceState) (process : Process) (answer : Option FrameParts)
    (after : DeviceState) → AnswersTo (ReachesAmong device.identity chars None) device process answer after
    → AnswersTo (Reaches device.identity (Chars chars) None) device process answer after
noise_answers chars device process answer after a = record {
  brought = a.brought;
  is_brought = record { chars = chars; are_heard = refl; among = a.is_brought };
  answer_is = a.answer_is;
  after_is = a.after_is;
}

-- WHAT IS SPOKEN
-- A frame that is spoken after at least two preamble bytes counts as sent.
pub speaks_sent : (party : Party) (preambles : ℕ) (sent : Option FrameParts) (old new : List Spoken) → 2 ≤ preambles
    → Speaks (spoken_by party preambles sent) old new → IsSent sent (spoken_by party preambles sent)
speaks_sent party preambles sent old new enough speaks = grind arith

pub says_request : (who : MasterId) (hand : Option InHand) (frame : Option FrameParts) (old new : List Spoken)
    → frame ≡ frame_of (sent_by who hand) → Speaks (spoken_by (party_of who) master_preambles frame) old new
    → Speaks (sent_by who hand) old new × IsSent frame (sent_by who hand)
says_request who hand frame old new sends speaks = grind (arith, common_steps, speaks_sent)

-- Frames that are spoken later are kept later in the list.
pub AreSpoken-append : (frames more : List SpokenFrame) (list others : List Spoken) → AreSpoken frames list → AreSpoken more others
    → AreSpoken (frames ++ more) (list ++ others)
AreSpoken-append [] more [] others are next = next
AreSpoken-append (said ∷ frames) more (spoken ∷ list) others are next = (are.0, AreSpoken-append frames more list others are.1 next)
AreSpoken-append frames more list others are next = absurd are

-- What is spoken first and second in an event is kept in this order.
pub AreSpoken-two : (first second : Option SpokenFrame) (mid new : List Spoken) → Speaks first [] mid → Speaks second mid new
    → AreSpoken (option_to_list first ++ option_to_list second) new
AreSpoken-two first second mid new one two = grind arith
