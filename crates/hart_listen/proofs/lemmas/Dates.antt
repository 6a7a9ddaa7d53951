-- The dates of places, and the texts of sightings with them.
use Rattle.std.proofs.Common.{◌≡◌, ◌≤◌, ◌<◌, ◌+◌, ◌-◌, ℕ, zero, suc, All, List, [], ◌∷◌, ◌++◌, length, map, drop, refl}
use Rattle.std.proofs.Common.{Option, None, Some, arith, length-append}
use Rattle.std.proofs.lemmas.List.Elements.{All-append, All-cons, All-contains_itself, All-head, All-map, All-nil, All-tail, All-weaker}
use Rattle.std.specs.Prelude.{Contains}
use Rattle.hart_frame.specs.declared.heard.miss.Miss.{Miss}
use Rattle.hart_frame.specs.heard.Character.{Character}
use Rattle.hart_frame.specs.heard.Frames.{AreFrames}
use Rattle.hart_frame.specs.heard.Sighting.{Message, Missed, Seen, header_at, miss_in_whole, missed, moved_seen, seen_miss}
use Rattle.hart_frame.specs.heard.Sighting.{sightings}
use Rattle.hart_frame.specs.wire.Header.{HeaderParts}
use Rattle.hart_frame.specs.declared.heard.found.Found.{Found}
use Rattle.hart_frame.proofs.lemmas.heard.Place.{StandsIn-within}
use Rattle.hart_text.specs.Heard.{Date, Heard, HeardChar, Silence, after_chars, heard_chars, stretches}
use Rattle.hart_text.proofs.lemmas.Heard.{count}
use Rattle.hart_listen.specs.Dated.{dated_after}
use Rattle.hart_listen.specs.Sightings.{AreSightingsFrom, date_after, date_of, undated}
use Rattle.hart_listen.specs.LastMessages.{LastMessages, recalled}
use Rattle.hart_listen.specs.Gaps.{seen_place}
use Rattle.hart_listen.specs.Listener.{dated_from, total}
use Rattle.hart_listen.proofs.lemmas.Gaps.{told_from}
use Rattle.std.specs.Option.{option_map_or}

-- a sighting is moved with its place
pub moved_place : (n : ℕ) (s : Seen) → seen_place (moved_seen n s) ≡ n + seen_place s
moved_place n (Message found) = refl
moved_place n (Missed place miss header) = refl

-- two ways of dating give a sighting the same date
abbrev Agree : (f g : ℕ → List ℕ) → Seen → Type 0
Agree f g s = f (seen_place s) ≡ g (seen_place s)

-- sightings with the same date at each of their places are dated alike
same_at : (f g : ℕ → List ℕ) (earlier seen : List Seen) → All (Agree f g) seen → dated_after f earlier seen ≡ dated_after g earlier seen
same_at f g earlier [] same = refl
same_at f g earlier (s ∷ seen) same =
    let later = same_at f g (earlier ++ s ∷ []) seen (All-tail (Agree f g) s seen same) in
    rw (All-head (Agree f g) s seen same, later) refl

-- sightings from a place on are dated alike by all dates that agree from that place on
pub same_from : (last : LastMessages) (f g : ℕ → List ℕ) (n : ℕ) → ((place : ℕ) → n ≤ place → f place ≡ g place) → (seen : List Seen)
    → dated_from last f n seen ≡ dated_from last g n seen
same_from last f g n same seen =
    same_at f g (recalled last) (map (moved_seen n) seen)
    (All-map (Agree f g) (moved_seen n) seen
    (All-weaker (Contains seen) (λ s. Agree f g (moved_seen n s)) (λ s here. same _ (omega (arith, moved_place n s))) seen
    (All-contains_itself seen)))

-- sightings before a place are dated alike by all dates that agree before that place
pub same_within : (f g : ℕ → List ℕ) (n : ℕ) → ((place : ℕ) → place < n → f place ≡ g place) → (seen : List Seen)
    → All (λ s. seen_place s < n) seen → dated_after f [] seen ≡ dated_after g [] seen
same_within f g n same seen within =
    same_at f g [] seen (All-weaker (λ (s : Seen). seen_place s < n) (Agree f g) (λ s before. same _ before) seen within)

-- sightings are dated alike by all dates that agree at each place
pub same_dates : (f g : ℕ → List ℕ) → ((place : ℕ) → f place ≡ g place) → (seen : List Seen)
    → dated_after f [] seen ≡ dated_after g [] seen
same_dates f g same seen =
    same_at f g [] seen (All-weaker (Contains seen) (Agree f g) (λ s here. same _) seen (All-contains_itself seen))

-- characters alone change no date
date_none : (last : List ℕ) (xs : List Character) (place : ℕ) → date_after last (heard_chars xs) place ≡ last
date_none last [] place = refl
date_none last (x ∷ xs) zero = refl
date_none last (x ∷ xs) (suc place) = date_none last xs place

pub date_chars : (last : List ℕ) (heard : List Heard) (xs : List Character) (place : ℕ)
    → date_after last (heard ++ heard_chars xs) place ≡ date_after last heard place
date_chars last [] xs place = date_none last xs place
date_chars last (HeardChar c ∷ heard) xs zero = refl
date_chars last (HeardChar c ∷ heard) xs (suc place) = date_chars last heard xs place
date_chars last (Silence ∷ heard) xs place = date_chars last heard xs place
date_chars last (Date word ∷ heard) xs place = date_chars word heard xs place

-- a silence changes no date
pub date_silence : (last : List ℕ) (heard : List Heard) (place : ℕ)
    → date_after last (heard ++ Silence ∷ []) place ≡ date_after last heard place
date_silence last [] place = refl
date_silence last (HeardChar c ∷ heard) zero = refl
date_silence last (HeardChar c ∷ heard) (suc place) = date_silence last heard place
date_silence last (Silence ∷ heard) place = date_silence last heard place
date_silence last (Date word ∷ heard) place = date_silence word heard place

-- what is heard later changes no date of what was heard
pub date_before : (last : List ℕ) (heard more : List Heard) (place : ℕ) → place < count heard
    → date_after last (heard ++ more) place ≡ date_after last heard place
date_before last [] more place within = absurd (omega (arith, within))
date_before last (HeardChar c ∷ heard) more zero within = refl
date_before last (HeardChar c ∷ heard) more (suc place) within = date_before last heard more place (omega (arith, within))
date_before last (Silence ∷ heard) more place within = date_before last heard more place within
date_before last (Date word ∷ heard) more place within = date_before word heard more place within

-- a date that is heard last is the date of all places that come later
pub date_later : (last : List ℕ) (heard : List Heard) (word : List ℕ) (place : ℕ) → count heard ≤ place
    → date_after last (heard ++ Date word ∷ []) place ≡ word
date_later last [] word place after = refl
date_later last (HeardChar c ∷ heard) word zero after = absurd (omega (arith, after))
date_later last (HeardChar c ∷ heard) word (suc place) after = date_later last heard word place (omega (arith, after))
date_later last (Silence ∷ heard) word place after = date_later last heard word place after
date_later last (Date other ∷ heard) word place after = date_later other heard word place after

-- characters alone have no date
pub no_date : (chars : List Character) (place : ℕ) → date_of (heard_chars chars) place ≡ undated place
no_date chars place = date_none [] chars place

-- misses that are told for a range of places stand at these places
told_within : (told : Miss → Miss) (f : ℕ → Option Miss) (h : ℕ → Option HeaderParts) (a n limit : ℕ)
    → ((place : ℕ) → a ≤ place → place < a + n → place < limit) → All (λ s. seen_place s < limit) (told_from told f h a n)
told_within told f h a zero limit within = All-nil (λ (s : Seen). seen_place s < limit)
told_within told f h a (suc n) limit within =
    let later = told_within told f h (a + 1) n limit (λ place from below. within place (omega (arith, from)) (omega (arith, below))) in
    elim (f a) as (λ miss. All (λ (s : Seen). seen_place s < limit)
    (option_map_or (λ m. Missed a (told m) (h a) ∷ []) miss [] ++ told_from told f h (a + 1) n)) [
      | None ↦ later
      | Some m ↦
          All-cons (λ (s : Seen). seen_place s < limit) (Missed a (told m) (h a)) (told_from told f h (a + 1) n)
          (within a (omega arith) (omega arith)) later
    ]

missed_within : (chars : List Character) (from stop : ℕ) → stop ≤ length chars
    → All (λ s. seen_place s < length chars) (missed chars from stop)
missed_within chars from stop within =
    told_within (miss_in_whole from) (λ place. seen_miss (drop from chars) (place - from)) (header_at chars) from (stop - from)
    (length chars) (λ place after below. omega (arith, within, after, below))

-- the sightings of characters stand at places of these characters
sightings_within : (chars : List Character) (from : ℕ) (frames : List Found) → AreFrames chars from frames
    → All (λ s. seen_place s < length chars) (sightings chars from frames)
sightings_within chars _ _ (AreFrames.none from without) = missed_within chars from (length chars) (omega arith)
sightings_within chars _ _ (AreFrames.first from found later is are) =
    let lies = StandsIn-within found chars from is.stands in
    All-append (λ (s : Seen). seen_place s < length chars) (missed chars from found.start) _
    (missed_within chars from found.start (omega (arith, lies.some, lies.within)))
    (All-cons (λ (s : Seen). seen_place s < length chars) (Message found) (sightings chars found.stop later)
    (omega (arith, lies.some, lies.within))
    (sightings_within chars found.stop later are))

-- moved sightings stand at moved places
moved_within : (n limit most : ℕ) → n + limit ≤ most → (seen : List Seen) → All (λ s. seen_place s < limit) seen
    → All (λ s. seen_place s < most) (map (moved_seen n) seen)
moved_within n limit most few seen within =
    All-map (λ (s : Seen). seen_place s < most) (moved_seen n) seen
    (All-weaker (λ (s : Seen). seen_place s < limit) (λ (s : Seen). seen_place (moved_seen n s) < most)
    (λ s before. omega (arith, few, moved_place n s, before)) seen within)

-- the sightings of stretches stand at places of these stretches
pub stretches_within : (place most : ℕ) (parts : List (List Character)) (seen : List Seen) → place + total parts ≤ most
    → AreSightingsFrom place parts seen → All (λ s. seen_place s < most) seen
stretches_within place most [] seen few none = rw none (All-nil (λ (s : Seen). seen_place s < most))
stretches_within place most (chars ∷ later) seen few (own, are, rest, more, is) =
    let within = sightings_within chars 0 are.frames are.are_frames in
    rw is (All-append (λ (s : Seen). seen_place s < most) (map (moved_seen place) own) rest
    (moved_within place (length chars) most (omega (arith, few)) own (rw (← are.seen_is) at within))
    (stretches_within (place + length chars) most later rest (omega (arith, few)) more))

-- characters that are put before stretches are counted with those of the stretches
total_after : (xs : List Character) (parts : List (List Character)) → total (after_chars xs parts) ≡ length xs + total parts
total_after xs [] = omega arith
total_after xs (first ∷ later) = omega (arith, length-append xs first)

pub total_count : (heard : List Heard) → total (stretches heard) ≡ count heard
total_count [] = refl
total_count (HeardChar c ∷ heard) = omega (arith, total_after (c ∷ []) (stretches heard), total_count heard)
total_count (Silence ∷ heard) = omega (arith, total_count heard)
total_count (Date word ∷ heard) = total_count heard

-- if all sightings of a list stand before a place, so do those of its first part
pub all_first : (n : ℕ) (xs ys : List Seen) → All (λ s. seen_place s < n) (xs ++ ys) → All (λ s. seen_place s < n) xs
all_first n [] ys all = All-nil (λ (s : Seen). seen_place s < n)
all_first n (x ∷ xs) ys all =
    All-cons (λ (s : Seen). seen_place s < n) x xs (All-head (λ (s : Seen). seen_place s < n) x (xs ++ ys) all)
    (all_first n xs ys (All-tail (λ (s : Seen). seen_place s < n) x (xs ++ ys) all))
