-- A turn of the line is a turn of the world, and noise on the line is noise in the world.
use Rattle.hart_line.proofs.Common.{◌≡◌, Bool, false, ◌∙◌, refl, Option, None, Some, List, [], ◌∷◌, ◌++◌, ◌⊎◌, arith, common_steps}
use Rattle.hart_line.proofs.Common.{option_to_list, of_master, with_master, MasterId, FrameParts, DeviceState, Effect, Nothing, after}
use Rattle.hart_line.proofs.Common.{after_reply, Brought, OneFrame, state_after_delivery, Process, Heard, LineEvent, Turn, Spoken, ◌&&◌}
use Rattle.hart_line.proofs.Common.{if◌then◌else◌, append-nil, AnswersTo, IsSent, LineState, Stands, Stepped, AreHeld, Concludes, Arrives}
use Rattle.hart_line.proofs.Common.{Reaches, AreSpoken, SpokenFrame, Speaks, frame_of, master_preambles, party_of, spoken_by, Step}
use Rattle.hart_line.proofs.Common.{cold_start_after, effect_on, replied, spoken_request, sent_back, sent_by, turned, InHand, Start, World}
use Rattle.hart_line.proofs.Common.{state_of, ℕ, Address, Err, MarksWithin, Refused, Request, Submits, hand_of, hand_submitted}
use Rattle.hart_line.proofs.Common.{result_submitted, submission_fault}
use Rattle.hart_frame.specs.wire.Message.{IsPreambleCount}
use Rattle.hart_line.proofs.lemmas.line.Leg.{AreSpoken-two, says_request, speaks_sent}
use Rattle.hart_line.proofs.Common.{with_master-same}
use Rattle.hart_line.proofs.lemmas.world.Steps.{frame_in, none_reaches, reaches_sent, state-after}
use Rattle.hart_master.specs.declared.fault.Rejected.{Rejected}
use Rattle.hart_line.specs.declared.line.report.Party.TheVariants as parties

-- The device answered what this leg brought it. In this event only the sent frame and then the answer, if any, were spoken.
pub record IsAnswered (start : Start) (world : World) (heard : Heard) (said : Option SpokenFrame) (answer : Option FrameParts)
    (after : DeviceState) (spoken : List Spoken) : Type 0 where
  pub brought : Brought
  pub arrives : Reaches start.device.identity heard said brought
  pub after_is : after ≡ state_after_delivery (state_of start.device world) brought
  pub was_sent : IsSent answer (sent_back start world brought)
  pub spoken_are : AreSpoken (option_to_list said ++ option_to_list (sent_back start world brought)) spoken

pub answered : (start : Start) (world : World) (heard : Heard) (said : Option SpokenFrame) (answer : Option FrameParts)
    (process : Process) (line : LineState) (after : DeviceState) (mid new : List Spoken) → Stands start world line
    → start.process ≡ process → Speaks said [] mid
    → AnswersTo (Reaches line.device.identity heard said) line.device process answer after → IsPreambleCount line.response_preambles
    → Speaks (spoken_by parties.Device line.response_preambles answer) mid new → IsAnswered start world heard said answer after new
answered start world heard said answer process line after mid new s same says given count replies =
    let a = rw (s.device_is, ← same) at given in
    let back : spoken_by parties.Device line.response_preambles answer ≡ sent_back start world a.brought =
    rw (s.preambles_are, a.answer_is) refl in
    record {
      brought = a.brought;
      arrives = a.is_brought;
      after_is = a.after_is;
      was_sent = rw back at (speaks_sent parties.Device line.response_preambles answer mid new (omega (arith, count.0)) replies);
      spoken_are = AreSpoken-two said (sent_back start world a.brought) mid new says (rw back at replies);
    }

-- In a turn the master's request was spoken, if the master had a request in hand.
pub turn_answered : (start : Start) (world : World) (who : MasterId) (up : Heard) (sent answer : Option FrameParts) (process : Process)
    (line : LineState) (after : DeviceState) (mid new : List Spoken) → Stands start world line → start.process ≡ process
    → sent ≡ frame_of (sent_by who (of_master who world.hands)) → Speaks (spoken_by (party_of who) master_preambles sent) [] mid
    → ((said : Option SpokenFrame) → IsSent sent said → AnswersTo (Reaches line.device.identity up said) line.device process answer after)
    → IsPreambleCount line.response_preambles → Speaks (spoken_by parties.Device line.response_preambles answer) mid new
    → IsAnswered start world up (sent_by who (of_master who world.hands)) answer after new
turn_answered start world who up sent answer process line after mid new s same sends speaks answers count replies =
    let says = says_request who (of_master who world.hands) sent [] mid sends speaks in
    answered start world up (sent_by who (of_master who world.hands)) answer process line after mid new s same says.0
    (answers (sent_by who (of_master who world.hands)) says.1) count replies

-- If nothing is spoken in an event, a line that stands for the next world has carried out the event.
pub silent_step : (start : Start) (world next : World) (event : LineEvent) (line : LineState) → Step start world event next
    → next.spoken ≡ world.spoken → line.spoken ≡ [] → Stands start next line → Stepped start world event line
silent_step start world next event line step same silent stands = record {
  next = next;
  step = step;
  stands = stands;
  said = [];
  said_is = grind (arith, append-nil);
  spoken_are = rw silent tt;
}

-- A device that is brought no frame does not change.
unheard : (state : DeviceState) (brought : Brought) → frame_in brought ≡ None → state_after_delivery state brought ≡ state
unheard state (OneFrame frame) none = cc
unheard state brought none = refl

-- If nothing was sent, as at noise, the event leads to the world in which the device has replied to what it was brought.
pub replied_steps : (start : Start) (world : World) (event : LineEvent) (heard : Heard) (answer : Option FrameParts) (line : LineState)
    → (a : IsAnswered start world heard None answer line.device line.spoken) → Step start world event (replied start world a.brought)
    → AreHeld start.retries world.hands line.masters → line.outcomes ≡ world.outcomes
    → line.response_preambles ≡ start.device.identity.response_preambles → Stepped start world event line
replied_steps start world event heard answer line a step held same preambles_are = record {
  next = replied start world a.brought;
  step = step;
  stands = record {
    device_is = a.after_is ∙ unheard (state_of start.device world) a.brought
        (none_reaches start.device.identity heard a.brought a.arrives);
    masters_are = held;
    outcomes_are = same;
    preambles_are = preambles_are;
  };
  said = option_to_list (sent_back start world a.brought);
  said_is = refl;
  spoken_are = a.spoken_are;
}

-- If the device answers, its state is that after the command, with the master's cold start bit cleared. Otherwise it does not change.
answer_leaves : (answered zero : Bool) (asked : Effect) (id : MasterId) (state : DeviceState)
    → (if answered then after_reply id (after id (if answered && zero then asked else Nothing) state) else state)
    ≡ record (after id (if answered && zero then asked else Nothing) state) {
      cold_start = if answered then with_master id false state.cold_start else state.cold_start;
    }
answer_leaves answered zero asked id state = grind (arith)

state_after-effect : (state : DeviceState) (id : MasterId) (held : InHand) (brought : Brought)
    → (frame_in brought ≡ None) ⊎ (brought ≡ OneFrame (spoken_request id held).frame) → state_after_delivery state brought
    ≡ record (after id (effect_on state brought) state) { cold_start = cold_start_after state id brought }
state_after-effect state id held brought known = grind (arith, answer_leaves)

-- The line stands for the world that the turn leads to.
pub turn_stands : (start : Start) (world : World) (who : MasterId) (up down : Heard) (hand : Option InHand)
    (answer returned : Option FrameParts) (line : LineState) → MarksWithin world → of_master who world.hands ≡ hand
    → (a : IsAnswered start world up (sent_by who hand) answer line.device line.spoken)
    → ((said : Option SpokenFrame) → IsSent answer said → Arrives down said returned)
    → Concludes who (of_master who start.retries) hand returned world.outcomes line.outcomes
    (λ left. AreHeld start.retries (with_master who left world.hands) line.masters)
    → line.response_preambles ≡ start.device.identity.response_preambles → Stepped start world (Turn who up down) line
turn_stands start world who up down None answer returned line within in_hand a returns ends preambles_are =
    let held = rw (with_master-same who None world.hands in_hand) at ends.left in
    replied_steps start world (Turn who up down) up answer line a (grind (arith, common_steps)) held ends.outcomes_are preambles_are
turn_stands start world who up down (Some held) answer returned line within in_hand a returns ends preambles_are =
    let next = turned start world who (Some held) a.brought ends.accepted in record {
      next = next;
      step = grind (arith, common_steps);
      stands = record {
        device_is = a.after_is ∙ state_after-effect (state_of start.device world) who held a.brought
            (reaches_sent start.device.identity up (spoken_request who held) a.brought a.arrives)
            ∙ state-after start.device world next who held.submission (effect_on (state_of start.device world) a.brought)
            within refl refl refl;
        masters_are = ends.left;
        outcomes_are = ends.outcomes_are;
        preambles_are = preambles_are;
      };
      said = spoken_request who held ∷ option_to_list (sent_back start world a.brought);
      said_is = refl;
      spoken_are = a.spoken_are;
    }

-- A submission that the master refuses is refused in the world with the same fault, and the hand does not change.
pub refused_submits : (held : Option InHand) (place : ℕ) (address : Address) (request : Request) (rejected : Rejected)
    (Left : Option InHand → Type 0) → result_submitted (hand_of held) address request ≡ Err rejected
    → (hand_submitted (hand_of held) address request ≡ hand_of held → Left held)
    → Submits held place address request (submission_fault held address request) (Refused rejected.fault) Left
refused_submits held place address request rejected Left is left = grind arith
