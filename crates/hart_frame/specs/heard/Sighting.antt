-- What is seen in characters, in order: messages, and places where a message seems to start but no frame stands (implementation choice).
use Rattle.std.specs.Prelude.{◌≡◌, ◌+◌, ◌-◌, ◌==◌, ◌&&◌, if◌then◌else◌, ℕ, Bool, IsTrue, List, [], ◌∷◌, ◌++◌}
use Rattle.std.specs.Prelude.{Option, None, drop, length, take, zip}
use Rattle.std.specs.List.{flat_map, list_any, range_with_len}
use Rattle.std.specs.Option.{option_map_or}
use Rattle.hart_frame.specs.heard.Character.{Character}
use Rattle.hart_frame.specs.heard.Frames.{AreFrames, moved}
use Rattle.hart_frame.specs.heard.InTheWay.{bytes_from}
use Rattle.hart_frame.specs.heard.Miss.{follows_one_preamble, miss_of}
use Rattle.hart_frame.specs.wire.Header.{HeaderParts, header_in}
use Rattle.hart_frame.specs.wire.Layout.{body_length}
use Rattle.hart_frame.specs.declared.heard.found.Found.{Found}
use Rattle.hart_frame.specs.declared.heard.miss.Miss.{Miss}
use Rattle.hart_frame.specs.declared.heard.miss.Miss.TheVariants.{BadCheck, Faulty}

-- A sighting: a message, or a place where a message seems to start but no frame stands. `Missed` has the place, the reason, and the header
-- that is heard there, if any.
pub data Seen : Type 0 where
  Message : (found : Found) → Seen
  Missed : (place : ℕ) (miss : Miss) (header : Option HeaderParts) → Seen

-- A miss, moved: the place that it names is increased by `from`, so that it counts from the first character of the list and no longer from
-- the place `from`. A miss that names no place is unchanged.
abbrev pub miss_in_whole : ℕ → Miss → Miss
miss_in_whole from (Faulty place faults) = Faulty (from + place) faults
miss_in_whole from (BadCheck place byte fits) = BadCheck (from + place) byte fits
miss_in_whole from miss = miss

-- A sighting, moved: the same sighting, with all its places increased by `places`.
abbrev pub moved_seen : ℕ → Seen → Seen
moved_seen places (Message found) = Message (moved places found)
moved_seen places (Missed place miss header) = Missed (places + place) (miss_in_whole places miss) header

-- Whether two preamble bytes FF stand in a row in some bytes: a byte and the byte right after it are both FF.
unfoldable pub has_two_preambles : List ℕ → Bool
has_two_preambles bytes = list_any (λ (byte, next). (byte == 255) && (next == 255)) (zip bytes (drop 1 bytes))

-- Whether two faultless FF in a row begin within the body at a place. The second FF may be the character right after the body.
abbrev pub two_begin_in_body : List Character → ℕ → Bool
two_begin_in_body chars place = has_two_preambles (take (body_length (bytes_from chars place) + 1) (bytes_from chars place))

-- The miss that is seen at a place: the miss of that place, with one exception. A whole body after a single FF is not seen if two FF in a
-- row, such as those of the next message, begin within that body.
abbrev pub seen_miss : List Character → ℕ → Option Miss
seen_miss chars place =
    if follows_one_preamble chars place && two_begin_in_body chars place then None else miss_of chars place

-- The header that is heard at a place: the header at the front of the faultless bytes from there on, or `None` if these bytes have no
-- header.
abbrev pub header_at : List Character → ℕ → Option HeaderParts
header_at chars place = header_in (bytes_from chars place)

-- A list with at most one sighting: the miss that is seen at a place, with the header that is heard there. Characters before `from`, the
-- end of the last message, do not count.
abbrev pub missed_at : List Character → ℕ → ℕ → List Seen
missed_at chars from place =
    option_map_or (λ miss. Missed place (miss_in_whole from miss) (header_at chars place) ∷ [])
    (seen_miss (drop from chars) (place - from)) []

-- The misses that are seen in a gap between messages, in order, each with its place and its header.
abbrev pub missed : List Character → (from stop : ℕ) → List Seen
missed chars from stop = flat_map (λ place. missed_at chars from place) (range_with_len from (stop - from))

-- The sightings from a place on, given the frames from there on: the misses before the first frame, that frame, and then the sightings from
-- its stop on. Without a frame, the sightings are all misses up to the end.
abbrev pub sightings : List Character → ℕ → List Found → List Seen
sightings chars from [] = missed chars from (length chars)
sightings chars from (found ∷ later) = missed chars from found.start ++ Message found ∷ sightings chars found.stop later

-- `seen` is the list of all messages and misses of some characters from a place on.
pub record AreSightings (chars : List Character) (from : ℕ) (seen : List Seen) : Type 0 where
  pub frames : List Found
  pub are_frames : AreFrames chars from frames
  pub seen_is : seen ≡ sightings chars from frames

-- The sightings from `from` on are `given`, followed by the sightings from `to` on, whatever characters come later. If `ended` is true, no
-- characters come later.
abbrev pub SeesOn : List Character → Bool → ℕ → List Seen → ℕ → Type 0
SeesOn chars ended from given to = (more : List Character) (later : List Seen) → (IsTrue ended → more ≡ [])
    → AreSightings (chars ++ more) to later → AreSightings (chars ++ more) from (given ++ later)

-- The characters decide no sighting: which sighting comes first, if any, depends on what follows them.
abbrev pub IsUndecidedSighting : List Character → Type 0
IsUndecidedSighting chars = (first : Seen) → ((more : List Character) (all : List Seen) → AreSightings (chars ++ more) 0 all
    → (later : List Seen) × (all ≡ first ∷ later)) → ⊥
