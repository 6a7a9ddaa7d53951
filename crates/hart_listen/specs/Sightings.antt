-- The sightings and the dates of what was heard (implementation choice).
use Rattle.std.specs.Prelude.{◌≡◌, ◌+◌, ℕ, zero, suc, List, [], ◌∷◌, ◌++◌, length, map}
use Rattle.hart_frame.specs.heard.Character.{Character}
use Rattle.hart_frame.specs.heard.Sighting.{AreSightings, Seen, moved_seen}
use Rattle.hart_text.specs.Heard.{Date, Heard, HeardChar, Silence, stretches}

-- The date of the character at a place: the last date that was heard before this character. Places are counted through all stretches. If no
-- date was heard before the character, the date is `last`.
abbrev pub date_after : List ℕ → List Heard → ℕ → List ℕ
date_after last [] place = last
date_after last (HeardChar character ∷ heard) zero = last
date_after last (HeardChar character ∷ heard) (suc place) = date_after last heard place
date_after last (Silence ∷ heard) place = date_after last heard place
date_after last (Date word ∷ heard) place = date_after word heard place

-- The date of the character at a place: the last date before it, or no bytes if there is none.
abbrev pub date_of : List Heard → ℕ → List ℕ
date_of heard place = date_after [] heard place

-- The dates if no date was heard: no place has one.
abbrev pub undated : ℕ → List ℕ
undated place = []

-- The sightings of stretches, which silences separate. Each stretch is searched alone, and its sightings are listed in order. Places are
-- counted through all stretches, beginning with `first`.
abbrev pub AreSightingsFrom : ℕ → List (List Character) → List Seen → Type 0
AreSightingsFrom first [] seen = seen ≡ []
AreSightingsFrom first (chars ∷ later) seen =
    (own : List Seen) × AreSightings chars 0 own × (rest : List Seen) × AreSightingsFrom (first + length chars) later rest
    × (seen ≡ map (moved_seen first) own ++ rest)

-- The sightings of what was heard are the sightings of its stretches.
abbrev pub AreSightingsOf : List Heard → List Seen → Type 0
AreSightingsOf heard seen = AreSightingsFrom 0 (stretches heard) seen

-- These sightings stay the first ones of what was heard, whatever is heard next.
abbrev pub ComeFirst : List Heard → List Seen → Type 0
ComeFirst heard seen =
    (more : List Heard) (all : List Seen) → AreSightingsOf (heard ++ more) all → (later : List Seen) × (all ≡ seen ++ later)

-- The sightings that what was heard decides: they stay the first ones, whatever is heard next, and no further sighting is sure to follow
-- them.
pub record AreDecided (heard : List Heard) (seen : List Seen) : Type 0 where
  pub first : ComeFirst heard seen
  pub no_more : (next : Seen) → ComeFirst heard (seen ++ next ∷ []) → ⊥
