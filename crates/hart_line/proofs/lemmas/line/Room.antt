-- The memory that a script needs is enough for each of its events, and for all that is spoken.
use Rattle.hart_line.proofs.Common.{◌∷◌, arith, ℕ, ◌+◌, ◌<◌, List, [], length, drop, get_or, common_steps, drop_more, LineEvent, LineState}
use Rattle.hart_line.proofs.Common.{◌≡◌, ◌≤◌, ◌++◌, inl, inr, sum_by-append, Turn, length-append, IsLast, Step, Start, World, first_world}
use Rattle.hart_line.specs.line.Room.{HasRoomFor, LeavesRoom}
use Rattle.hart_line.specs.world.Needs.{most_spoken}
use Rattle.hart_line.proofs.lemmas.world.Steps.{along, turn_cases}

-- If there is room for the events from event `n` on, there is room for event `n`, and afterwards for the events after it.
pub room_here : (events : List LineEvent) (n : ℕ) (unused : LineEvent) (line : LineState) → n < length events
    → HasRoomFor (drop n events) line → HasRoomFor (get_or events n unused ∷ []) line
room_here events n unused line here room = grind (arith, common_steps, drop_more)

pub room_after : (events : List LineEvent) (n : ℕ) (unused : LineEvent) (line line' : LineState) → n < length events
    → HasRoomFor (drop n events) line → LeavesRoom (get_or events n unused) line line'
    → HasRoomFor (drop (n + 1) events) (record line' { spoken = [] })
room_after events n unused line line' here room leaves = grind (arith, common_steps, drop_more)

-- An event adds at most `most_spoken` frames to what was spoken.
step_speaks : (start : Start) (world : World) (event : LineEvent) (next : World) → Step start world event next
    → length next.spoken ≤ length world.spoken + most_spoken (event ∷ [])
step_speaks start world (Turn who up down) next step = elim (turn_cases start world who up down next step) [
  | inl s ↦ rw s.next_is (grind (arith, length-append))
  | inr silent ↦ rw silent.1 (grind (arith, length-append))
]
step_speaks start world event next step = grind (arith, length-append)

most_spoken-more : (events : List LineEvent) (event : LineEvent)
    → most_spoken (events ++ event ∷ []) ≡ most_spoken events + most_spoken (event ∷ [])
most_spoken-more events event = grind (arith, sum_by-append)

pub spoken_within : (start : Start) (events : List LineEvent) (last : World) → IsLast start events last
    → length last.spoken ≤ most_spoken events
spoken_within start events last run = along start (first_world start) events (λ es world. length world.spoken ≤ most_spoken es)
    (λ before next event here within.
    let more = step_speaks start before event next here.step in rw most_spoken-more (omega arith)) (omega arith) last run
