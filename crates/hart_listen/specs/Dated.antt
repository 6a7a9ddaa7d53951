-- Sightings, each with its date and with what the messages before it say of it (implementation choice).
use Rattle.std.specs.Prelude.{ℕ, List, [], ◌∷◌, ◌++◌}
use Rattle.std.specs.List.{flat_map}
use Rattle.hart_frame.specs.heard.Sighting.{Seen}
use Rattle.hart_explain.specs.Sighting.{date_words, json_line, seen_text}
use Rattle.hart_explain.specs.declared.before.Before.{Before}
use Rattle.hart_listen.specs.Before.{before_of}
use Rattle.hart_listen.specs.Gaps.{seen_place}

-- A dated sighting: the date of its place, or no bytes if it has none, what is known of it from what was heard before it, and the sighting.
pub record Dated : Type 0 where
  pub date : List ℕ
  pub before : Before
  pub seen : Seen

-- `date` gives the date of each place. A sighting with its date, and with what earlier sightings say of it.
abbrev pub dated_one : (ℕ → List ℕ) → List Seen → Seen → Dated
dated_one date earlier seen = record { date = date (seen_place seen); before = before_of earlier seen; seen = seen }

-- Sightings with their dates. `earlier` are the sightings before the first of them.
abbrev pub dated_after : (ℕ → List ℕ) → List Seen → List Seen → List Dated
dated_after date earlier [] = []
dated_after date earlier (seen ∷ later) = dated_one date earlier seen ∷ dated_after date (earlier ++ seen ∷ []) later

-- The text of a dated sighting is its date, and then the text of the sighting.
abbrev pub words_of : Dated → List ℕ
words_of told = date_words told.date ++ seen_text told.before told.seen

-- The line of a dated sighting is its JSON object.
abbrev pub line_of : Dated → List ℕ
line_of told = json_line told.date told.before told.seen

-- The explanation of sightings is the text of each, in their order. `earlier` are the sightings before the first of them.
abbrev pub explanation : (ℕ → List ℕ) → List Seen → List Seen → List ℕ
explanation date earlier seen = flat_map words_of (dated_after date earlier seen)
