-- Lemmas about what is brought to the device, about what each step of a script keeps, and about the device after an effect.
use Rattle.hart_line.proofs.Common.{arith, ◌≡◌, Bool, ap, refl, subst, Option, None, Some, List, [], ◌∷◌, ◌++◌, ◌⊎◌, inl, inr, ℕ, length}
use Rattle.hart_line.proofs.Common.{common_steps, map-append, mod-add-mod, nat_tests, of_master, EachMaster, MasterId, Primary, Secondary}
use Rattle.hart_line.proofs.Common.{Reply, Contents, registers_of, overwritten, Brought, OneFrame, Effect, DeviceState, Executes, after}
use Rattle.hart_line.proofs.Common.{IdentityParts, MasterFault, FrameParts, Heard, LineEvent, Submit, Turn, Protect, Noise, Restart}
use Rattle.hart_line.proofs.Common.{length-append, IsStepOf, Submission, brought_in_step, submissions_of, SpokenFrame, IsTurn, LeadsTo}
use Rattle.hart_line.proofs.Common.{Step, replied, spoken_request, submitted, turned, effect_on, executions_after, marks_after, state_of}
use Rattle.hart_line.proofs.Common.{InHand, Start, Reaches, World, Execution, MarksWithin, overwrites_of}
use Rattle.hart_device.proofs.lemmas.Laws.{registers_of_lists-last}
use Rattle.hart_line.proofs.Common.{none_or_some, with_master-cases}

-- WHAT IS BROUGHT
-- The frame that is brought to the device, if any. It is the frame that was sent.
abbrev pub frame_in : Brought → Option FrameParts
frame_in (OneFrame frame) = Some frame
frame_in brought = None

pub reaches_sent : (identity : IdentityParts) (heard : Heard) (said : SpokenFrame) (brought : Brought)
    → Reaches identity heard (Some said) brought → (frame_in brought ≡ None) ⊎ (brought ≡ OneFrame said.frame)
reaches_sent identity heard said brought r = grind arith

-- So if nothing was sent, no frame is brought.
pub none_reaches : (identity : IdentityParts) (heard : Heard) (brought : Brought) → Reaches identity heard None brought
    → frame_in brought ≡ None
none_reaches identity heard brought r = grind arith

-- ONE STEP A turn of a master with a request in hand. The turn brings the device the frame of this request, or no frame.
pub record IsSending (start : Start) (world : World) (who : MasterId) (brought : Brought) (accepted : Option Reply) (next : World)
    : Type 0 where
  pub held : InHand
  pub in_hand : of_master who world.hands ≡ Some held
  pub known : (frame_in brought ≡ None) ⊎ (brought ≡ OneFrame (spoken_request who held).frame)
  pub next_is : next ≡ turned start world who (Some held) brought accepted

-- A turn without a request in hand brings the device no frame, and the device only replies to what it is brought.
pub turn_cases : (start : Start) (world : World) (who : MasterId) (up down : Heard) (next : World)
    (turn : IsTurn start world who up down next)
    → IsSending start world who turn.brought turn.accepted next ⊎ (frame_in turn.brought ≡ None) × (next ≡ replied start world turn.brought)
turn_cases start world who up down next turn =
    elim (none_or_some (of_master who world.hands)) [
      | inl none ↦ inr (none_reaches start.device.identity up turn.brought (rw none at turn.arrives), rw none at turn.next_is)
      | inr (held, is) ↦ inl (record {
        held = held;
        in_hand = is;
        known = reaches_sent start.device.identity up (spoken_request who held) turn.brought (rw is at turn.arrives);
        next_is = rw is at turn.next_is;
      })
    ]

-- A step submits a request, sends the request in a master's hand, or changes at most protection, cold start bits and what was spoken.
pub data StepCases (start : Start) (world next : World) (submissions : List Submission) : Type 0 where
  Submits : (said : Submission) (fault : Option MasterFault) → submissions ≡ said ∷ []
      → next ≡ submitted world said.who said.address said.request fault → StepCases start world next submissions
  Sends : (who : MasterId) (brought : Brought) (accepted : Option Reply) → submissions ≡ []
      → IsSending start world who brought accepted next → StepCases start world next submissions
  Stays : (protected : Bool) (cold_start : EachMaster Bool) (spoken : List SpokenFrame) → submissions ≡ []
      → next ≡ record world { protected = protected; cold_start = cold_start; spoken = spoken } → StepCases start world next submissions

pub step_cases : (start : Start) (world : World) (event : LineEvent) (next : World) → Step start world event next
    → StepCases start world next (submissions_of (event ∷ []))
step_cases start world (Submit who address request) next step =
    Submits (record { who = who; address = address; request = request }) _ refl step
step_cases start world (Turn who up down) next step = elim (turn_cases start world who up down next step) [
  | inl sending ↦ Sends who step.brought step.accepted refl sending
  | inr silent ↦ Stays _ _ _ refl silent.1
]
step_cases start world (Protect on) next step = Stays _ _ _ refl step
step_cases start world (Noise chars) next step = Stays _ _ _ refl step.next_is
step_cases start world Restart next step = Stays _ _ _ refl step

-- The master of a turn. For any other event it is the primary master.
abbrev pub master_in : LineEvent → MasterId
master_in (Turn who up down) = who
master_in event = Primary

-- So the executions and the marks after a step include the effect of what the step brought the device.
pub entered : (start : Start) (world : World) (event : LineEvent) (next : World) (step : Step start world event next) → (number : ℕ)
    × (next.executions
    ≡ executions_after (effect_on (state_of start.device world) (brought_in_step start world event next step)) number world.executions)
    × (next.marks ≡ marks_after (effect_on (state_of start.device world) (brought_in_step start world event next step)) (master_in event)
    (length world.executions) world.marks)
entered start world (Turn who up down) next step = elim (turn_cases start world who up down next step) [
  | inl s ↦ (s.held.submission, ap (λ (w : World). w.executions) s.next_is, ap (λ (w : World). w.marks) s.next_is)
  | inr silent ↦ (0, grind arith, grind arith)
]
entered start world event next step = (0, grind arith, grind arith)

-- After an effect, too, no mark is greater than the number of executions.
pub marks_kept : (effect : Effect) (who : MasterId) (number : ℕ) (world next : World)
    → next.executions ≡ executions_after effect number world.executions
    → next.marks ≡ marks_after effect who (length world.executions) world.marks → MarksWithin world → MarksWithin next
marks_kept effect who number world next executions marks within id mark is =
    grind (arith, length-append, with_master-cases)

-- EVERY STEP
-- What holds before all events, and is kept by each step of a script, also holds after all events.
pub along : (start : Start) (from : World) (events : List LineEvent) (P : List LineEvent → World → Type 0)
    → ((before next : World) (event : LineEvent) (here : IsStepOf start from events before event next) → P here.prefix before
    → P (here.prefix ++ event ∷ []) next) → P [] from → (last : World) → LeadsTo start from events last → P events last
along start from [] P keeps holds last led = rw led holds
along start from (event ∷ events) P keeps holds last led = along start led.0 events (λ es. P (event ∷ es)) (λ before next other here.
    keeps before next other (record {
      prefix = event ∷ here.prefix;
      suffix = here.suffix;
      split = ap (λ es. event ∷ es) here.split;
      led = (led.0, led.1, here.led);
      step = here.step;
    })) (keeps from led.0 event (record { prefix = []; suffix = events; split = refl; led = refl; step = led.1 }) holds) last led.2

-- If events lead to a world, and one more event leads from there to a next world, then all these events together lead to that next world.
pub leads_more : (start : Start) (events : List LineEvent) (event : LineEvent) (world mid next : World)
    → LeadsTo start world events mid → Step start mid event next → LeadsTo start world (events ++ event ∷ []) next
leads_more start [] event world mid next run step = (next, subst (λ w. Step start w event next) run step, refl)
leads_more start (e ∷ events) event world mid next run step = (run.0, run.1, leads_more start events event run.0 mid next run.2 step)

-- THE STATE OF THE DEVICE AFTER AN EFFECT
-- States are the same if their parts are the same.
pub same_state : (a b : DeviceState) → a.identity ≡ b.identity → a.contents ≡ b.contents → a.counter ≡ b.counter
    → a.changed.primary ≡ b.changed.primary → a.changed.secondary ≡ b.changed.secondary → a.protected ≡ b.protected
    → a.cold_start ≡ b.cold_start → a ≡ b
same_state a b identity contents counter primary secondary protected cold_start = grind arith

pub contents-more : (executions : List Execution) (execution : Execution) (initial : Contents)
    → overwritten execution.overwrite (registers_of (overwrites_of executions) initial)
    ≡ registers_of (overwrites_of (executions ++ execution ∷ [])) initial
contents-more executions execution initial = grind (arith, common_steps, map-append, registers_of_lists-last)

-- The device's state after an effect, but with the cold start bits of the next world, is its state in the next world.
pub state-after : (initial : DeviceState) (world next : World) (id : MasterId) (number : ℕ) (effect : Effect) → MarksWithin world
    → next.executions ≡ executions_after effect number world.executions
    → next.marks ≡ marks_after effect id (length world.executions) world.marks → next.protected ≡ world.protected
    → record (after id effect (state_of initial world)) { cold_start = next.cold_start } ≡ state_of initial next
state-after initial world next id number (Executes overwrite) within executions marks protected =
    rw (executions, marks, protected) (same_state _ _ refl (contents-more world.executions _ initial.contents)
    (grind (arith, common_steps, mod-add-mod)) (grind (arith, common_steps, nat_tests, within Primary))
    (grind (arith, common_steps, nat_tests, within Secondary)) refl refl)
state-after initial world next id number effect within executions marks protected = grind (arith, same_state, nat_tests)
