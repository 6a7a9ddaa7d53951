-- Memory for the outcomes on a line, and for the list of spoken frames. Only private calls use these definitions (implementation choice).
use Rattle.std.specs.Prelude.{◌≡◌, ◌≤◌, ◌+◌, List, [], ◌∷◌, ◌++◌, count_by, length}
use Rattle.hart_line.specs.Filling.{Filled}
use Rattle.hart_line.specs.line.Line.{LineState}
use Rattle.hart_line.specs.world.Needs.{is_submission}
use Rattle.hart_line.specs.Types.{LineEvent, Spoken}

-- A line has room for the outcomes of these events, and keeps no spoken frames.
pub record HasRoomFor (events : List LineEvent) (line : LineState) : Type 0 where
  pub outcomes : length line.outcomes + count_by is_submission events ≤ line.outcomes_room
  pub nothing_spoken : line.spoken ≡ []

-- A submission takes the room of at most one outcome. Any other event takes no room.
pub record LeavesRoom (event : LineEvent) (old new : LineState) : Type 0 where
  pub outcomes : length new.outcomes ≤ length old.outcomes + count_by is_submission (event ∷ [])
  pub outcomes_room : new.outcomes_room ≡ old.outcomes_room

-- Appending frames to a list does not change the room of the list. If there was room for all these frames, they follow the old items.
pub record NotesWithin (old : Filled Spoken) (noted : List Spoken) (new : Filled Spoken) : Type 0 where
  pub room : new.room ≡ old.room
  pub items : length old.items + length noted ≤ old.room → new.items ≡ old.items ++ noted
