-- What is told when characters and marks are heard (implementation choice).
use Rattle.std.specs.Prelude.{◌≡◌, ◌≤◌, ◌<◌, ◌+◌, ◌-◌, ℕ, Bool, false, List, [], ◌∷◌, ◌++◌, None, IfSome, drop, length, map, take}
use Rattle.hart_frame.specs.declared.scan.sighting.After.{After}
use Rattle.hart_frame.specs.declared.scan.sighting.After.TheVariants.{Damaged, End, More}
use Rattle.hart_frame.specs.declared.scan.sighting.NextSighting.{NextSighting}
use Rattle.hart_frame.specs.heard.Character.{Character, faultless}
use Rattle.hart_frame.specs.heard.Sighting.{IsUndecidedSighting, Seen, SeesOn, moved_seen}
use Rattle.hart_frame.specs.scan.Sighting.{EndsAt, heard_with, is_end, sightings_of}
use Rattle.hart_text.specs.Heard.{Heard, ReadsHeard, after_chars, stretches}
use Rattle.hart_listen.specs.Before.{AreAlike}
use Rattle.hart_listen.specs.Dated.{Dated, dated_after}
use Rattle.hart_listen.specs.Dates.{date_at, date_from}
use Rattle.hart_listen.specs.LastMessages.{KeepsOwn, LastMessages, recalled}
use Rattle.hart_listen.specs.Preambles.{last_preambles, last_stop, told_of}
use Rattle.hart_listen.specs.Sightings.{AreSightingsFrom, date_of}
use Rattle.hart_listen.specs.Teller.{Moment, ToldBetween}
use Rattle.hart_listen.specs.declared.dates.Dates.{Dates}
use Rattle.hart_listen.specs.declared.listener.Listener.{Listener}
use Rattle.hart_listen.specs.declared.past.Past.{Past}

-- Held characters are waiting if no sighting in them is decided until more is heard. At most 268 characters are held then, each with its
-- date.
pub record IsWaiting (listener : Listener) : Type 0 where
  pub undecided : IsUndecidedSighting (faultless listener.held)
  pub few : length listener.held ≤ 268
  pub dated : length listener.dates.held.items ≡ length listener.held
  pub own : KeepsOwn listener.first listener.past.last
  pub preambles : listener.past.preambles ≤ listener.first

-- The number of characters in stretches. Silences separate the stretches of what was heard.
abbrev pub total : List (List Character) → ℕ
total [] = 0
total (chars ∷ later) = length chars + total later

-- What was heard falls into earlier stretches and the last one. The sightings of the earlier stretches, and those that the last one
-- decides, were told with their dates and their preamble bytes: `Told` is true of the list of them. The `held` characters are the last ones
-- of the last stretch, from the place `first` on in all that was heard. The first `used` of them are told too. If `ended` is true, nothing
-- comes after the last stretch's characters. What is kept says the same of later sightings as all told sightings and all dropped characters
-- do.
pub record Stands (Told : List Dated → Type 0) (past : Past) (date : ℕ → List ℕ) (first : ℕ) (held : List Character) (used : ℕ)
    (ended : Bool) (heard : List Heard) : Type 0 where
  pub earlier : List (List Character)
  pub chars : List Character
  pub splits : (more : List Heard) → stretches (heard ++ more) ≡ earlier ++ after_chars chars (stretches more)
  pub before : List Seen
  pub are_before : AreSightingsFrom 0 earlier before
  pub base : ℕ
  pub within_chars : base ≤ length chars
  pub first_is : first ≡ total earlier + base
  pub held_is : held ≡ drop base chars
  pub seen : List Seen
  pub sees : SeesOn chars ended 0 seen (base + used)
  pub within : used ≤ length held
  pub dates : (place : ℕ) → first ≤ place → date place ≡ date_of heard place
  pub alike : AreAlike (recalled past.last) (before ++ map (moved_seen (total earlier)) seen)
  pub stop : past.stop ≡ last_stop (before ++ map (moved_seen (total earlier)) seen)
  pub preambles : past.preambles ≡ last_preambles (take base chars)
  pub told : Told (told_of heard (before ++ map (moved_seen (total earlier)) seen))

-- What was heard before the held characters is told, in the sense of `Told`. `IsWaiting` says that the held ones decide nothing more.
abbrev pub StandsFor : (List Dated → Type 0) → Bool → Listener → List Heard → Type 0
StandsFor Told ended listener heard =
    Stands Told listener.past (date_from listener) listener.first (faultless listener.held) 0 ended heard

-- The same for a listener alone: of what was heard before the held characters, it has told exactly this list of dated sightings.
abbrev pub HasTold : Bool → Listener → List Heard → List Dated → Type 0
HasTold ended listener heard list = StandsFor (λ told. told ≡ list) ended listener heard

-- Whatever was heard before, `more` was heard after it, and what comes before the characters that are then held was told. If `ended` is
-- true, nothing comes after it in its stretch.
abbrev pub Hears : {T W : Type 0} → ToldBetween T W → (old new : Listener) → List Heard → Bool → (before after : Moment T W) → Type 0
Hears {T} {W} Told old new more ended before after = (start since : Moment T W) (heard : List Heard)
    → StandsFor (Told start since before) false old heard → StandsFor (Told start since after) ended new (heard ++ more)

-- The characters and marks of a text were heard, up to a place in it.
pub record HearsText {T W : Type 0} (Told : ToldBetween T W) (old new : Listener) (text : List ℕ) (place : ℕ)
    (before after : Moment T W) : Type 0 where
  pub within : place ≤ length text
  pub heard : List Heard
  pub reads : ReadsHeard text heard (drop place text)
  pub hears : Hears Told old new heard false before after
  pub fits : new.first + length new.held + length (drop place text) ≤ old.first + length old.held + length text

-- Only private calls use the definitions from here on.

-- The next sightings with their dates, after the kept messages. The places in the sightings are counted from `first` on.
abbrev pub dated_from : LastMessages → (ℕ → List ℕ) → ℕ → List Seen → List Dated
dated_from last date first seen = dated_after date (recalled last) (map (moved_seen first) seen)

-- The next sighting from the place `from` on, in the held bytes and in what comes after them. The search went up to the place `used`. If
-- there is a sighting, `used` is beyond `from`. If there is none, at most 268 characters are left from `used` on, and they decide no
-- sighting. If `after` is not `More`, no character is left then.
pub record IsNextSighting (held : List ℕ) (after : After) (from : ℕ) (next : NextSighting) : Type 0 where
  pub sees : SeesOn (heard_with held after) (is_end after) from (sightings_of next.sighting) next.used
  pub within : next.used ≤ length (heard_with held after)
  pub onward : from ≤ next.used
  pub further : IfSome next.sighting (λ sighting. from < next.used)
  pub places : IfSome next.sighting (EndsAt (length (heard_with held after)) next.used)
  pub few : next.sighting ≡ None → length (heard_with held after) < next.used + 269
  pub all : next.sighting ≡ None → (after ≡ More → ⊥) → next.used ≡ length (heard_with held after)
  pub undecided : next.sighting ≡ None → after ≡ More → IsUndecidedSighting (faultless (drop next.used held))

-- The character that comes after the held ones, if it is known.
abbrev pub chars_after : After → List Character
chars_after More = []
chars_after (Damaged character) = character ∷ []
chars_after End = []

-- The search in held bytes, and in what comes after them, went up to the place `used`. At most 268 characters are left from there on, and
-- they decide no sighting. If `after` is not `More`, no character is left.
pub record DecidesNoMore (held : List ℕ) (after : After) (used : ℕ) : Type 0 where
  pub within : used ≤ length (heard_with held after)
  pub few : length (heard_with held after) < used + 269
  pub all : (after ≡ More → ⊥) → used ≡ length (heard_with held after)
  pub undecided : after ≡ More → IsUndecidedSighting (faultless (drop used held))

-- Whatever was heard before, the decided sightings up to the place `used`, in held bytes and in what comes after them, were told.
abbrev pub HearsDecided : {T W : Type 0} → ToldBetween T W → ℕ → List ℕ → After → ℕ → Dates → (past past_after : Past)
    → (before after : Moment T W) → Type 0
HearsDecided {T} {W} Told first held after used dates past past_after now now_after = (start since : Moment T W) (heard : List Heard)
    → Stands (Told start since now) past (λ place. date_at dates (place - first)) first (heard_with held after) 0 (is_end after) heard
    → Stands (Told start since now_after) past_after (λ place. date_at dates (place - first)) first (heard_with held after) used
    (is_end after) heard
