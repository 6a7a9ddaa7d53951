-- How many preamble bytes stand right before a message, and all that is told of what was heard (implementation choice).
use Rattle.std.specs.Prelude.{◌-◌, ◌++◌, ℕ, List, [], ◌∷◌, Option, None, Some, if◌then◌else◌, length, min, nat_le, nat_lt, replicate}
use Rattle.std.specs.Prelude.{reverse, slice_index, take}
use Rattle.std.specs.List.{flat_map, suffix_len}
use Rattle.hart_frame.specs.heard.Character.{Character, faultless}
use Rattle.hart_frame.specs.heard.Miss.{is_preamble}
use Rattle.hart_frame.specs.heard.Sighting.{Message, Missed, Seen}
use Rattle.hart_text.specs.Heard.{Heard, stretches}
use Rattle.hart_listen.specs.Dated.{Dated, dated_after, line_of}
use Rattle.hart_listen.specs.Sightings.{date_of}

-- How many intact preamble bytes FF characters end with.
abbrev pub last_preambles : List Character → ℕ
last_preambles chars = suffix_len is_preamble chars

-- How many intact preamble bytes stand right before a place, in its own stretch. Places are counted through all stretches.
abbrev pub preambles_in : List (List Character) → ℕ → ℕ
preambles_in [] place = 0
preambles_in (chars ∷ later) place =
    if nat_lt place (length chars) then last_preambles (take place chars) else preambles_in later (place - length chars)

-- How many intact preamble bytes stand right before a place in what was heard.
abbrev pub preambles_of : List Heard → ℕ → ℕ
preambles_of heard place = preambles_in (stretches heard) place

-- The list with the place after a message. The list of a miss is empty.
abbrev pub stop_of : Seen → List ℕ
stop_of (Message found) = found.stop ∷ []
stop_of (Missed place miss header) = []

-- The place after the last message among sightings, or 0 if there is none.
abbrev pub last_stop : List Seen → ℕ
last_stop seen = slice_index (reverse (flat_map stop_of seen)) 0

-- How many intact preamble bytes a message has: those right before its delimiter that do not belong to the message before it. `preambles`
-- gives for each place how many stand right before it, and `earlier` are the sightings before the message. A miss has no number.
abbrev pub own_preambles : (ℕ → ℕ) → List Seen → Seen → Option ℕ
own_preambles preambles earlier (Message found) = Some (min (preambles found.start) (found.start - last_stop earlier))
own_preambles preambles earlier (Missed place miss header) = None

-- A dated sighting with the number of its preamble bytes.
abbrev pub counted_one : (ℕ → ℕ) → List Seen → Dated → Dated
counted_one preambles earlier told =
    record told { before = record told.before { preambles = own_preambles preambles earlier told.seen } }

-- Dated sightings with the numbers of their preamble bytes. `earlier` are the sightings before the first of them.
abbrev pub counted : (ℕ → ℕ) → List Seen → List Dated → List Dated
counted preambles earlier [] = []
counted preambles earlier (told ∷ later) = counted_one preambles earlier told ∷ counted preambles (earlier ++ told.seen ∷ []) later

-- What is told of sightings of what was heard: each with its date, with what the sightings before it say of it, and with the number of its
-- preamble bytes.
abbrev pub told_of : List Heard → List Seen → List Dated
told_of heard seen = counted (preambles_of heard) [] (dated_after (date_of heard) [] seen)

-- The JSON lines of sightings of what was heard.
abbrev pub object_lines : List Heard → List Seen → List ℕ
object_lines heard seen = flat_map line_of (told_of heard seen)

-- Only private calls use the definitions from here on.

-- The place after the last message, when one more sighting is seen. `stop` is the place after the last message before it, or 0.
abbrev pub stop_after : ℕ → Seen → ℕ
stop_after stop (Message found) = found.stop
stop_after stop (Missed place miss header) = stop

-- Some preamble bytes, and then these characters.
abbrev pub after_preambles : ℕ → List Character → List Character
after_preambles preambles chars = replicate preambles (record { byte = 255; faults = 0 }) ++ chars

-- How many intact preamble bytes stand right before a place in characters that begin at the place `first`. `preambles` of them stand right
-- before these characters.
abbrev pub preambles_at : ℕ → ℕ → List Character → ℕ → ℕ
preambles_at preambles first chars place = last_preambles (after_preambles preambles (take (place - first) chars))

-- How many intact preamble bytes stand right before what stays when the first `used` characters are dropped: held bytes, and maybe a
-- damaged character after all of them. `preambles` of them stand right before the held bytes.
abbrev pub preambles_dropped : ℕ → List ℕ → ℕ → ℕ
preambles_dropped preambles held used =
    if nat_le used (length held) then last_preambles (after_preambles preambles (faultless (take used held))) else 0
