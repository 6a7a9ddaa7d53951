-- A script leads to one world if all damage is detected, and never past undetected damage. Detectable damage is detected.
use Rattle.hart_line.proofs.Common.{ap, ◌≡◌, ℕ, ◌<◌, ◌∙◌, sym, arith, Option, None, Some, List, [], ◌∷◌, ◌++◌, suc, pred, take, drop, ◌≤◌}
use Rattle.hart_line.proofs.Common.{refl, inl, inr, common_steps, slice_get, of_master, MasterId, Character, FrameParts, Reply, Brings}
use Rattle.hart_line.proofs.Common.{Brought, IdentityParts, Heard, Clean, Chars, LineEvent, Turn, Noise, Leg, Undetected, LineFault}
use Rattle.hart_line.proofs.Common.{append-nil, AreHeard, Arrives, IsUndetected, Reaches, ReachesAmong, IsDetectable, IsDetected, IsFault}
use Rattle.hart_line.proofs.Common.{SpokenFrame, frame_of, Accepts, IsLast, LeadsTo, Step, sent_back, sent_by, InHand, Start, World}
use Rattle.hart_line.proofs.Common.{first_world, messages_have_their_frame_alone-message, messages_have_their_frame_alone-nothing}
use Rattle.hart_device.proofs.lemmas.Laws.{deliveries_bring_one-one, deliveries_bring_one-brings}
use Rattle.hart_frame.specs.declared.heard.found.Found.{Found}
use Rattle.hart_frame.specs.heard.Frames.{AreFrames}
use Rattle.hart_frame.proofs.lemmas.Laws.{bodies_are_unambiguous-one_body, frames_are_unambiguous-one_list}
use Rattle.hart_frame.proofs.lemmas.Laws.{damaged_messages_have_no_other_frame-check, damaged_messages_have_no_other_frame-marked}
use Rattle.hart_master.proofs.lemmas.Laws.{replies_are_decided-one_reply, replies_are_decided-decided}
use Rattle.hart_line.specs.world.Faults.{HasUndetected, HeardIn, AreAllDetected, HasDetectable, IsNotDetectable, LegsAreDetected}
use Rattle.hart_line.specs.declared.fault.Leg.TheVariants as legs

AreHeard-one : (heard : Heard) (sent : Option SpokenFrame) (a b : List Character) → AreHeard heard sent a → AreHeard heard sent b → a ≡ b
AreHeard-one Clean (Some said) a b x y =
    let body = bodies_are_unambiguous-one_body said.frame x.1.body y.1.body x.1.is_body y.1.is_body in grind (arith, common_steps)
AreHeard-one heard sent a b x y = grind arith

pub Arrives-one : (heard : Heard) (sent : Option SpokenFrame) (a b : Option FrameParts) → Arrives heard sent a
    → Arrives heard sent b → a ≡ b
Arrives-one heard sent a b s t = grind (arith, AreHeard-one, frames_are_unambiguous-one_list)

-- A leg brings the device at most one thing.
brings_among : {identity : IdentityParts} {chars : List Character} {sent : Option FrameParts} {brought : Brought}
    → ReachesAmong identity chars sent brought → Brings identity chars brought
brings_among r = record { frames = r.arrives.frames; are_frames = r.arrives.are_frames; by_frames = r.brings }

pub Reaches-one : (identity : IdentityParts) (heard : Heard) (sent : Option SpokenFrame) (a b : Brought)
    → Reaches identity heard sent a → Reaches identity heard sent b → a ≡ b
Reaches-one identity heard sent a b s t =
    let same = AreHeard-one heard sent s.chars t.chars s.are_heard t.are_heard in
    deliveries_bring_one-one identity t.chars a b (rw same at (brings_among s.among)) (brings_among t.among)

-- If something arrives in a leg, its damage is detected.
arrived_detected : {heard : Heard} {sent : Option SpokenFrame} {arrived : Option FrameParts} → Arrives heard sent arrived
    → IsUndetected heard sent → ⊥
arrived_detected a u = grind (arith, AreHeard-one, frames_are_unambiguous-one_list)

Accepts-one : (who : MasterId) (hand : Option InHand) (returned : Option FrameParts) (a b : Option Reply)
    → Accepts who hand returned a → Accepts who hand returned b → a ≡ b
Accepts-one who hand returned a b x y = grind (arith, replies_are_decided-one_reply)

pub step_one : (start : Start) (world : World) (event : LineEvent) (a b : World)
    → Step start world event a → Step start world event b → a ≡ b
step_one start world (Turn who up down) a b s t =
    let hand = of_master who world.hands in
    let brought = Reaches-one start.device.identity up (sent_by who hand) s.brought t.brought s.arrives t.arrives in
    let returned = Arrives-one down (sent_back start world t.brought) s.returned t.returned (rw brought at s.returns) t.returns in
    let accepted = Accepts-one who hand t.returned s.accepted t.accepted (rw returned at s.accepts) t.accepts in cc
step_one start world (Noise chars) a b s t =
    let same = Reaches-one start.device.identity (Chars chars) None s.brought t.brought s.arrives t.arrives in cc
step_one start world event a b s t = s ∙ sym t

-- If the first events of a script lead to a world, the other events lead from there to the script's last world.
pub leads_on : (start : Start) (prefix suffix : List LineEvent) (from world last : World) → LeadsTo start from (prefix ++ suffix) last
    → LeadsTo start from prefix world → LeadsTo start world suffix last
leads_on start [] suffix from world last run led = rw led run
leads_on start (event ∷ prefix) suffix from world last run led =
    leads_on start prefix suffix led.0 world last (rw (step_one start from event run.0 led.0 run.1 led.1) at run.2) led.2

-- So a script leads to at most one world.
pub leads_one : (start : Start) (events : List LineEvent) (world a b : World) → LeadsTo start world events a → LeadsTo start world events b
    → a ≡ b
leads_one start events world a b s t = leads_on start events [] world b a (rw append-nil s) t

-- FAULTS
-- What is heard in a leg is unique, and so is what was sent in it.
HeardIn-one : (start : Start) (world : World) (event : LineEvent) (leg : Leg) (a b : Heard) (s t : Option SpokenFrame)
    → HeardIn start world event leg a s → HeardIn start world event leg b t → (a ≡ b) × (s ≡ t)
HeardIn-one start world (Turn who up down) legs.Down a b s t x y =
    let same = Reaches-one start.device.identity up (sent_by who (of_master who world.hands)) x.1 y.1 x.2 y.2 in
    (x.0 ∙ sym y.0, x.3 ∙ ap (sent_back start world) same ∙ sym y.3)
HeardIn-one start world event leg a b s t x y = grind arith

-- In a leg that brings the device something, a frame or nothing arrives.
arrived_of : {identity : IdentityParts} {heard : Heard} {sent : Option SpokenFrame} {brought : Brought}
    → Reaches identity heard sent brought → (arrived : Option FrameParts) × Arrives heard sent arrived
arrived_of r = (r.among.frame, record { chars = r.chars; are_heard = r.are_heard; among = r.among.arrives })

-- If an event leads to a next world, the damage of each of its legs is detected.
step_hears : (start : Start) (world : World) (event : LineEvent) (next : World) (leg : Leg) (heard : Heard) (sent : Option SpokenFrame)
    → Step start world event next → HeardIn start world event leg heard sent → (arrived : Option FrameParts) × Arrives heard sent arrived
step_hears start world (Turn who up down) next legs.Up heard sent step h = rw (h.0, h.1) (arrived_of step.arrives)
step_hears start world (Turn who up down) next legs.Down heard sent step h =
    let same = Reaches-one start.device.identity up (sent_by who (of_master who world.hands)) h.1 step.brought h.2 step.arrives in
    rw (h.0, h.3, same) (step.returned, step.returns)
step_hears start world (Noise chars) next legs.Noise heard sent step h = rw (h.0, h.1) (arrived_of step.arrives)
step_hears start world event next leg heard sent step h = absurd h

-- An event that leads to a next world has no undetected damage. Any other event has undetected damage in at most one leg.
step_detected : (start : Start) (world : World) (event : LineEvent) (next : World) (leg : Leg)
    → Step start world event next → HasUndetected start world event leg → ⊥
step_detected start world event next leg step u =
    arrived_detected (step_hears start world event next leg u.0 u.1 step u.2).1 u.3

pub undetected_one : (start : Start) (world : World) (event : LineEvent) (leg another : Leg)
    → HasUndetected start world event leg → HasUndetected start world event another → leg ≡ another
undetected_one start world (Turn who up down) legs.Up legs.Down u v =
    absurd (arrived_detected (arrived_of v.2.2).1 (rw (u.2.0, u.2.1) at u.3))
undetected_one start world (Turn who up down) legs.Down legs.Up u v =
    absurd (arrived_detected (arrived_of u.2.2).1 (rw (v.2.0, v.2.1) at v.3))
undetected_one start world event leg another u v = grind arith

take-past : {A : Type 0} (number other : ℕ) (xs : List A) (x : A) → slice_get xs number ≡ Some x → number < other
    → take other xs ≡ take number xs ++ x ∷ drop (suc number) (take other xs)
take-past number other [] x is before = cc
take-past number other (y ∷ xs) x is before = grind (arith, take-past (pred number) (pred other) xs x)

-- Events that include an event with undetected damage lead to no world.
pub fault_before : (start : Start) (events : List LineEvent) (number other : ℕ) (leg : Leg) (world : World) → number < other
    → IsFault start events (Undetected number leg) → IsLast start (take other events) world → ⊥
fault_before start events number other leg world before f run =
    let on = leads_on start (take number events) (f.1 ∷ drop (suc number) (take other events)) (first_world start) f.0 world
    (rw (take-past number other events f.1 f.3 before) at run) f.2 in
    step_detected start f.0 f.1 on.0 leg on.1 f.4

-- DETECTABLE DAMAGE
-- If these are the frames of some characters and the damage is detected, the damage is not undetected damage.
not_undetected : {heard : Heard} {sent : Option SpokenFrame} (chars : List Character) (frames : List Found) (arrived : Option FrameParts)
    → (u : IsUndetected heard sent) → u.chars ≡ chars → AreFrames chars 0 frames → IsDetected (frame_of sent) frames arrived → ⊥
not_undetected {sent = sent} chars frames arrived u is are detected = grind (arith, common_steps, frames_are_unambiguous-one_list)

heard_detected : (heard : Heard) (sent : Option SpokenFrame) → ((said : SpokenFrame) → sent ≡ Some said → 2 ≤ said.preambles)
    → IsDetectable heard sent → IsUndetected heard sent → ⊥
heard_detected Clean (Some said) long d u =
    not_undetected _ _ (Some said.frame) u u.are_heard.2
    (messages_have_their_frame_alone-message said.frame said.preambles u.are_heard.0 (long said refl) u.are_heard.1) (refl, refl)
heard_detected (Chars chars) None long d u = d
heard_detected (Chars chars) (Some said) long (inl marked) u =
    elim (damaged_messages_have_no_other_frame-marked said.frame said.preambles chars marked) [
      | inl empty ↦ not_undetected chars [] None u u.are_heard empty refl
      | inr one ↦ not_undetected chars _ (Some said.frame) u u.are_heard one (refl, refl)
    ]
heard_detected (Chars chars) (Some said) long (inr check) u =
    not_undetected chars [] None u u.are_heard (damaged_messages_have_no_other_frame-check said.frame said.preambles chars check) refl
heard_detected heard sent long d u = not_undetected [] [] None u u.are_heard messages_have_their_frame_alone-nothing refl

-- Whatever is sent has at least two preamble bytes before it.
sent_long : (start : Start) (world : World) (event : LineEvent) (leg : Leg) (heard : Heard) (sent : Option SpokenFrame)
    → 5 ≤ start.device.identity.response_preambles → HeardIn start world event leg heard sent
    → (said : SpokenFrame) → sent ≡ Some said → 2 ≤ said.preambles
sent_long start world event leg heard sent enough h said is = grind arith

leg_detected : (start : Start) (world : World) (event : LineEvent) (leg : Leg)
    → 5 ≤ start.device.identity.response_preambles → HasDetectable start world event leg → HasUndetected start world event leg → ⊥
leg_detected start world event leg enough d u =
    let same = HeardIn-one start world event leg d.0 u.0 d.1 u.1 d.2 u.2 in
    heard_detected u.0 u.1 (sent_long start world event leg u.0 u.1 enough u.2) (rw (same.0, same.1) at d.3) u.3

pub fault_not_detectable : (start : Start) (events : List LineEvent) (fault : LineFault)
    → 5 ≤ start.device.identity.response_preambles → IsFault start events fault → IsNotDetectable start events fault
fault_not_detectable start events (Undetected number leg) enough f = λ world event last here detectable.
    let same = leads_one start (take number events) (first_world start) world f.0 last f.2 in
    let same_event : event ≡ f.1 = cc in
    leg_detected start f.0 f.1 leg enough (rw (same, same_event) at detectable) f.4
fault_not_detectable start events fault enough f = tt

-- SCRIPTS WHOSE DAMAGE IS DETECTED
accepted_of : (who : MasterId) (hand : Option InHand) (returned : Option FrameParts)
    → (accepted : Option Reply) × Accepts who hand returned accepted
accepted_of who (Some held) (Some frame) = elim (replies_are_decided-decided who held.address held.request frame) [
  | inl reply ↦ (Some reply.0, reply.1)
  | inr none ↦ (None, none)
]
accepted_of who hand returned = (None, grind arith)

-- A leg whose damage is detected brings the device a frame, a garbled request or no message.
reaches_one : (identity : IdentityParts) (heard : Heard) (sent : Option SpokenFrame) (brought : Option FrameParts)
    → Arrives heard sent brought → (brought : Brought) × Reaches identity heard sent brought
reaches_one identity heard sent brought a =
    let b = deliveries_bring_one-brings identity a.chars in
    let same = frames_are_unambiguous-one_list a.chars 0 b.1.frames a.among.frames b.1.are_frames a.among.are_frames in
    let brings = rw same at b.1.by_frames in
    (b.0, record { chars = a.chars; are_heard = a.are_heard; among = record { frame = brought; arrives = a.among; brings = brings } })

step_exists : (start : Start) (world : World) (event : LineEvent) → LegsAreDetected start world event
    → (next : World) × Step start world event next
step_exists start world (Turn who up down) detected =
    let hand = of_master who world.hands in
    let arrived = detected legs.Up up (sent_by who hand) (refl, refl) in
    let brought = reaches_one start.device.identity up (sent_by who hand) arrived.0 arrived.1 in
    let back = detected legs.Down down (sent_back start world brought.0) (refl, brought.0, brought.1, refl) in
    let a = accepted_of who hand back.0 in (
      _,
      record {
        brought = brought.0;
        arrives = brought.1;
        returned = back.0;
        returns = back.1;
        accepted = a.0;
        accepts = a.1;
        next_is = refl;
      },
    )
step_exists start world (Noise chars) detected =
    let arrived = detected legs.Noise (Chars chars) None (refl, refl) in
    let brought = reaches_one start.device.identity (Chars chars) None arrived.0 arrived.1 in
    (_, record { brought = brought.0; arrives = brought.1; next_is = refl })
step_exists start world event detected = (_, refl)

pub leads_exists : (start : Start) (world : World) (events : List LineEvent) → AreAllDetected start world events
    → (last : World) × LeadsTo start world events last
leads_exists start world [] detected = (world, refl)
leads_exists start world (event ∷ events) detected =
    let step = step_exists start world event (detected [] events event world refl refl) in
    let rest = leads_exists start step.0 events (λ prefix suffix other mid split led.
    detected (event ∷ prefix) suffix other mid (ap (λ es. event ∷ es) split) (step.0, step.1, led)) in
    (rest.0, (step.0, step.1, rest.1))
