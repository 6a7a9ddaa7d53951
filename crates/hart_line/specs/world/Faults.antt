-- Why a script is not carried out (implementation choice).
use Rattle.std.specs.Prelude.{◌≡◌, List, ◌∷◌, ◌++◌, take, slice_get, Option, None, Some}
use Rattle.hart_line.specs.Types.{FrameParts, Brought, Heard, Chars, LineEvent, Turn, Noise, Leg, LineFault, BadLine, Memory, Undetected}
use Rattle.hart_values.specs.EachMaster.{of_master}
use Rattle.hart_line.specs.world.Damage.{Arrives, IsDetectable, IsUndetected, Reaches}
use Rattle.hart_line.specs.world.Needs.{IsNeededBy}
use Rattle.hart_line.specs.world.Spoken.{SpokenFrame}
use Rattle.hart_line.specs.world.Step.{IsLast, LeadsTo, sent_back, sent_by}
use Rattle.hart_line.specs.world.World.{Start, World}
use Rattle.hart_line.specs.declared.fault.Leg.TheVariants as legs

-- What is heard in a leg of an event, and what was sent in this leg. In the leg up of a turn, a master sends the request in its hand. In
-- the leg down, the device sends its answer to what the leg up brought the device. At noise nothing is sent. No other event has a leg.
abbrev pub HeardIn : Start → World → LineEvent → Leg → Heard → Option SpokenFrame → Type 0
HeardIn start world (Turn who up down) legs.Up heard sent = (heard ≡ up) × (sent ≡ sent_by who (of_master who world.hands))
HeardIn start world (Turn who up down) legs.Down heard sent = (heard ≡ down) × (brought : Brought)
    × Reaches start.device.identity up (sent_by who (of_master who world.hands)) brought × (sent ≡ sent_back start world brought)
HeardIn start world (Noise chars) legs.Noise heard sent = (heard ≡ Chars chars) × (sent ≡ None)
HeardIn start world _ _ heard sent = ⊥

-- A leg has damage of a kind: `IsDamage` is true of what is heard and what was sent in the leg.
abbrev pub HasDamage : (Heard → Option SpokenFrame → Type 0) → Start → World → LineEvent → Leg → Type 0
HasDamage IsDamage start world event leg =
    (heard : Heard) × (sent : Option SpokenFrame) × HeardIn start world event leg heard sent × IsDamage heard sent

-- A leg has undetected damage.
abbrev pub HasUndetected : Start → World → LineEvent → Leg → Type 0
HasUndetected = HasDamage IsUndetected

-- A script can have one of two faults. The first is undetected damage in a leg of the event with this number, counted from 0; no earlier
-- event has undetected damage. The second is a refusal of memory that the events need. A bad line is a fault of a text, never of events.
abbrev pub IsFault : Start → List LineEvent → LineFault → Type 0
IsFault start events (Undetected number leg) = (world : World) × (event : LineEvent)
    × IsLast start (take number events) world × (slice_get events number ≡ Some event) × HasUndetected start world event leg
IsFault start events (Memory room) = IsNeededBy events room.items
IsFault start events (BadLine line) = ⊥

-- The damage in a leg is detectable. The damage of noise is never detectable, because nothing was sent.
abbrev pub HasDetectable : Start → World → LineEvent → Leg → Type 0
HasDetectable = HasDamage IsDetectable

-- If a fault names a leg with undetected damage, the damage of this leg is not detectable.
abbrev pub IsNotDetectable : Start → List LineEvent → LineFault → Type 0
IsNotDetectable start events (Undetected number leg) = (world : World) (event : LineEvent)
    → IsLast start (take number events) world → slice_get events number ≡ Some event → HasDetectable start world event leg → ⊥
IsNotDetectable start events fault = Unit {0}

-- The damage in each leg of an event is detected. For the leg down this is true whatever the leg up brings the device.
abbrev pub LegsAreDetected : Start → World → LineEvent → Type 0
LegsAreDetected start world event = (leg : Leg) (heard : Heard) (sent : Option SpokenFrame)
    → HeardIn start world event leg heard sent → (arrived : Option FrameParts) × Arrives heard sent arrived

-- The damage in each leg of these events is detected, in every world to which the earlier events lead from the world `from`.
abbrev pub AreAllDetected : Start → World → List LineEvent → Type 0
AreAllDetected start from events = (prefix suffix : List LineEvent) (event : LineEvent) (world : World)
    → events ≡ prefix ++ event ∷ suffix → LeadsTo start from prefix world → LegsAreDetected start world event
