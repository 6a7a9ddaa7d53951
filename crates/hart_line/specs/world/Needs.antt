-- The memory that a script needs (implementation choice).
use Rattle.std.specs.Prelude.{◌≡◌, ◌⊎◌, ℕ, ◌+◌, ◌*◌, ◌<◌, Bool, true, false, List, count_by}
use Rattle.hart_line.specs.Types.{LineEvent, Submit, Turn, Noise}

-- Whether an event is a submission.
abbrev pub is_submission : LineEvent → Bool
is_submission (Submit who address request) = true
is_submission event = false

-- Whether an event is a turn.
abbrev pub is_turn : LineEvent → Bool
is_turn (Turn who up down) = true
is_turn event = false

-- Whether an event is noise.
abbrev pub is_noise : LineEvent → Bool
is_noise (Noise chars) = true
is_noise event = false

-- The greatest number of frames that can be spoken in events: two in each turn, and one at each noise.
abbrev pub most_spoken : List LineEvent → ℕ
most_spoken events = 2 * count_by is_turn events + count_by is_noise events

-- Events need memory for an outcome of each submission, if there is any submission.
abbrev pub IsNeededForOutcomes : List LineEvent → ℕ → Type 0
IsNeededForOutcomes events items = (0 < items) × (items ≡ count_by is_submission events)

-- If spoken frames are kept, events need memory for two lists. `items`, at least 1, is the length of one of these lists: the number of
-- submissions, or the greatest number of frames that can be spoken.
abbrev pub IsNeededBy : List LineEvent → ℕ → Type 0
IsNeededBy events items = IsNeededForOutcomes events items ⊎ (0 < items) × (items ≡ most_spoken events)
