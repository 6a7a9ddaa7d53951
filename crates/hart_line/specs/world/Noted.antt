-- Scripts whose spoken frames are noted in a log while they are carried out (implementation choice).
use Rattle.std.specs.Prelude.{◌⊎◌, ◌<◌, ℕ, Any, List, [], take}
use Rattle.hart_line.specs.world.Faults.{IsFault}
use Rattle.hart_line.specs.world.Needs.{IsNeededForOutcomes}
use Rattle.hart_line.specs.world.Spoken.{AreSpoken}
use Rattle.hart_line.specs.world.Step.{IsLast}
use Rattle.hart_line.specs.world.World.{Start, World}
use Rattle.hart_line.specs.Types.{LineEvent, LineFault, BadLine, Memory, Undetected, Spoken}

-- Memory for this number of items is needed to note a frame that was spoken in the first events of a script, up to some event. The number
-- is at least 1.
pub record IsNeededByNoting (Needs : Spoken → ℕ → Type 0) (start : Start) (events : List LineEvent) (items : ℕ) : Type 0 where
  pub number : ℕ
  pub world : World
  pub is_last : IsLast start (take number events) world
  pub spoken : List Spoken
  pub are_spoken : AreSpoken world.spoken spoken
  pub needed : Any (λ frame. Needs frame items) spoken
  pub some : 0 < items

-- Events that are carried out with a log can have one of two faults. The first is undetected damage, which is a fault without a log, too.
-- Everything spoken before the event with this damage has then been noted. The second is a refusal of memory for noting one of the spoken
-- frames.
abbrev pub IsNotingFault : (Needs : Spoken → ℕ → Type 0) → (AreNoted : List Spoken → Type 0) → Start → List LineEvent → LineFault → Type 0
IsNotingFault Needs AreNoted start events (Undetected number leg) = (undetected : IsFault start events (Undetected number leg))
    × (spoken : List Spoken) × AreSpoken undetected.0.spoken spoken × AreNoted spoken
IsNotingFault Needs AreNoted start events (Memory room) = IsNeededByNoting Needs start events room.items
IsNotingFault Needs AreNoted start events (BadLine line) = ⊥

-- The fault of a script with a log: memory for its outcomes is refused before anything is noted, or the fault is one of `IsNotingFault`.
abbrev pub IsLoggedFault : (Needs : Spoken → ℕ → Type 0) → (AreNoted : List Spoken → Type 0) → Start → List LineEvent → LineFault → Type 0
IsLoggedFault Needs AreNoted start events (Memory room) =
    IsNeededForOutcomes events room.items × AreNoted [] ⊎ IsNotingFault Needs AreNoted start events (Memory room)
IsLoggedFault Needs AreNoted start events fault = IsNotingFault Needs AreNoted start events fault
