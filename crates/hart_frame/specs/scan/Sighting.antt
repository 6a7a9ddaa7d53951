-- What the search for the next message or miss in bytes in memory promises (implementation choice).
use Rattle.std.specs.Prelude.{◌≡◌, ◌≢◌, ◌<◌, ℕ, Bool, true, false, ⊤, List, [], ◌∷◌, ◌++◌, Option, None, Some, option_map}
use Rattle.hart_frame.specs.heard.Character.{Character, faultless}
use Rattle.hart_frame.specs.heard.Sighting.{Message, Missed, Seen}
use Rattle.hart_frame.specs.wire.View.{found_of}
use Rattle.hart_frame.specs.wire.Header.{header_parts}
use Rattle.hart_frame.specs.declared.heard.miss.Miss.{Miss}
use Rattle.hart_frame.specs.declared.heard.miss.Miss.TheVariants.{BadCheck, Faulty}
use Rattle.hart_frame.specs.declared.scan.sighting.After.{After}
use Rattle.hart_frame.specs.declared.scan.sighting.After.TheVariants.{Damaged, End, More}
use Rattle.hart_frame.specs.declared.scan.sighting.Sighting.{Sighting}
use Rattle.hart_frame.specs.declared.scan.sighting.Sighting.TheVariants as given

-- The known characters: bytes that were heard without faults, and the character with fault bits after them, if such a character is known to
-- come.
abbrev pub heard_with : List ℕ → After → List Character
heard_with bytes More = faultless bytes
heard_with bytes (Damaged character) = faultless bytes ++ character ∷ []
heard_with bytes End = faultless bytes

-- Whether nothing comes after the bytes.
abbrev pub is_end : After → Bool
is_end More = false
is_end (Damaged character) = false
is_end End = true

-- The character that is known to follow, if there is one, has fault bits.
abbrev pub AfterIsValid : After → Type 0
AfterIsValid (Damaged character) = character.faults ≢ 0
AfterIsValid _ = ⊤

-- What a sighting in memory shows, as a value of the type `Seen`.
abbrev pub seen_of : Sighting → Seen
seen_of (given.Message view) = Message (found_of view)
seen_of (given.Missed place miss header) = Missed place miss (option_map header_parts header)

-- The list with just what a sighting shows, or the empty list if there is no sighting.
abbrev pub sightings_of : Option Sighting → List Seen
sightings_of None = []
sightings_of (Some sighting) = seen_of sighting ∷ []

-- The place that a miss names, if it names one, lies below `count`.
abbrev pub NamesPlacesBelow : ℕ → Miss → Type 0
NamesPlacesBelow count (Faulty place faults) = place < count
NamesPlacesBelow count (BadCheck place byte fits) = place < count
NamesPlacesBelow count _ = ⊤

-- A sighting in `count` characters ends at the place `used`: a message stops there, and a missed place lies before it. A miss names
-- only places below `count`.
abbrev pub EndsAt : ℕ → ℕ → Sighting → Type 0
EndsAt count used (given.Message view) = (view.start < view.stop) × (view.stop ≡ used)
EndsAt count used (given.Missed place miss header) = (place < used) × NamesPlacesBelow count miss
