-- How far a script has come on a line that drops spoken frames once they are noted.
use Rattle.hart_line.proofs.Common.{◌∙◌, ◌∷◌, arith, ◌≡◌, ℕ, ◌+◌, ◌<◌, sym, refl, List, [], length, take, get_or, rules, ◌++◌, Any}
use Rattle.hart_line.proofs.Common.{common_steps, take_more, Primary, Secondary, DeviceState, IsDevice, Process, MasterState, LineEvent}
use Rattle.hart_line.proofs.Common.{Outcome, Spoken, LineState, Stands, Stepped, Led, start_from, AreWellMade, AreSpoken, IsLast}
use Rattle.hart_line.proofs.Common.{MarksWithin, Start, World, first_world}
use Rattle.hart_master.specs.declared.hand.Hand.TheVariants.{Empty}
use Rattle.hart_line.proofs.lemmas.Laws.{scripts_keep_their_promises-first_world}
use Rattle.hart_line.proofs.lemmas.world.Steps.{entered, leads_more, marks_kept}
use Rattle.hart_line.proofs.lemmas.world.Submitted.{made_more}
use Rattle.hart_line.proofs.lemmas.line.Leg.{AreSpoken-append}

-- The events are well made and lead to a world. The line stands for that world, and what was spoken in the events has been noted.
pub record IsReached (start : Start) (events : List LineEvent) (line : LineState) (noted : List Spoken) : Type 0 where
  pub world : World
  pub is_last : IsLast start events world
  pub stands : Stands start world line
  pub spoken_are : AreSpoken world.spoken noted
  pub marks : MarksWithin world
  pub well_made : AreWellMade events

-- One more event is carried out, and what was spoken in it is noted and dropped.
pub reached_more : (start : Start) (events : List LineEvent) (n : ℕ) (unused : LineEvent) (line line' : LineState) (noted : List Spoken)
    → n < length events → (r : IsReached start (take n events) line noted) → Stepped start r.world (get_or events n unused) line'
    → AreWellMade (get_or events n unused ∷ [])
    → IsReached start (take (n + 1) events) (record line' { spoken = [] }) (noted ++ line'.spoken)
reached_more start events n unused line line' noted here r s made =
    let (number, executions, marks) = entered start r.world (get_or events n unused) s.next s.step in record {
      world = s.next;
      is_last = grind (arith, common_steps, take_more, leads_more);
      stands = grind (arith, s.stands);
      spoken_are = rw s.said_is (AreSpoken-append r.world.spoken s.said noted line'.spoken r.spoken_are s.spoken_are);
      marks = marks_kept _ _ number r.world s.next executions marks r.marks;
      well_made = made_more events n unused here r.well_made made;
    }

pub reached_first : (device : DeviceState) (process : Process) (primary secondary : MasterState) (line : LineState) → IsDevice device
    → (primary.id ≡ Primary) × (primary.hand ≡ Empty) → (secondary.id ≡ Secondary) × (secondary.hand ≡ Empty)
    → line.device ≡ device → line.masters.primary.master ≡ primary → line.masters.secondary.master ≡ secondary → line.outcomes ≡ []
    → line.response_preambles ≡ device.identity.response_preambles → IsReached (start_from device process primary secondary) [] line []
reached_first device process primary secondary line is one other same master another outcomes preambles =
    let start = start_from device process primary secondary in record {
      world = first_world start;
      is_last = refl;
      stands = record {
        device_is = same ∙ sym (scripts_keep_their_promises-first_world start is.counter);
        masters_are = record {
          primary = record { reply_limit = primary.reply_limit; master_is = grind arith; place_is = tt };
          secondary = record { reply_limit = secondary.reply_limit; master_is = grind arith; place_is = tt };
        };
        outcomes_are = outcomes;
        preambles_are = preambles;
      };
      spoken_are = tt;
      marks = λ id mark is. grind arith;
      well_made = search rules;
    }

-- The device, the outcomes and the frames that a line returns after these events are those to which the events led.
pub reached_led : {start : Start} {events : List LineEvent} {line : LineState} {noted : List Spoken} (device : DeviceState)
    (outcomes : List Outcome) → (r : IsReached start events line noted) → device ≡ line.device → outcomes ≡ line.outcomes
    → Led start events device outcomes noted
reached_led device outcomes r device_is outcomes_are = record {
  world = r.world;
  last = r.is_last;
  device_is = device_is ∙ r.stands.device_is;
  outcomes_are = outcomes_are ∙ r.stands.outcomes_are;
  spoken_are = r.spoken_are;
}

-- If something holds for an element of a list, it also holds for an element of any list that ends with this list.
pub Any-append : {X : Type 0} (P : X → Type 0) (xs ys : List X) → Any P ys → Any P (xs ++ ys)
Any-append P xs ys (k, x, within, is, holds) =
    (length xs + k, x, grind (arith, common_steps), grind (arith, common_steps), holds)
