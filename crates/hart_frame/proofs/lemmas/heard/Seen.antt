-- How what is seen of a list from a place on depends on what is seen of the list from a later place on.
use Rattle.hart_frame.proofs.Common.{◌≡◌, ℕ, zero, suc, ◌+◌, ◌-◌, ◌≤◌, List, [], ◌∷◌, ◌++◌, length, ◌<◌, drop, true, false, None, inl, refl}
use Rattle.hart_frame.proofs.Common.{arith, append_assoc, sym, nat_tests, append-nil, Miss, body_miss, flat_map, range_with_len, Found}
use Rattle.hart_frame.proofs.Common.{Character, AreFrames, IsFirst, first, none, StandsIn, AreSightings, Message, Missed, Seen, header_at}
use Rattle.hart_frame.proofs.Common.{missed_at, sightings, ◌≢◌, missed}
use Rattle.hart_frame.proofs.lemmas.heard.FramesFound.{AreFrames-earlier, body_of, start_of}
use Rattle.hart_frame.proofs.lemmas.heard.Missed.{none_of}
use Rattle.hart_frame.proofs.lemmas.heard.Place.{StandsIn-from, preamble}
use Rattle.hart_frame.proofs.lemmas.heard.Sighting.{after_two, not_both, IsClean, follows_from, is_other_at, is_preamble_at, same_from}
use Rattle.hart_frame.proofs.lemmas.heard.Place.{starts_at, tested}
use Rattle.std.proofs.lemmas.Grind.{flat_map-append}

-- A list passes to `to` if three things hold: `given` is seen before `to`; no frame begins before `to`; and what is seen at a place from
-- `to` on does not depend on whether characters count from `from` on or from `to` on.
pub record Passes (chars : List Character) (from to : ℕ) (given : List Seen) : Type 0 where
  pub order : from ≤ to
  pub within : to ≤ length chars
  pub told : missed chars from to ≡ given
  pub frames : (found : Found) → StandsIn found chars from → to + 2 ≤ found.start
  pub same : (place : ℕ) → to ≤ place → missed_at chars from place ≡ missed_at chars to place

-- A range of numbers is its first part and then the rest.
range_parts : (a n m : ℕ) → range_with_len a (n + m) ≡ range_with_len a n ++ range_with_len (a + n) m
range_parts a zero m = grind arith
range_parts a (suc n) m = let long : suc n + m ≡ suc (n + m) = omega arith in rw long (grind (arith, range_parts (a + 1) n m))

-- If the miss seen at each place from `to` on does not depend on whether characters count from `from` on or from `to` on, neither do the
-- misses at a row of such places.
same_places : (chars : List Character) (from to a k : ℕ) → to ≤ a
    → ((place : ℕ) → to ≤ place → missed_at chars from place ≡ missed_at chars to place)
    → flat_map (λ p. missed_at chars from p) (range_with_len a k) ≡ flat_map (λ p. missed_at chars to p) (range_with_len a k)
same_places chars from to a zero after same = refl
same_places chars from to a (suc k) after same = grind (arith, same a, same_places chars from to (a + 1) k (omega (arith, after)) same)

gap_on : (chars : List Character) (from to stop : ℕ) (given : List Seen) → Passes chars from to given → to ≤ stop
    → missed chars from stop ≡ given ++ missed chars to stop
gap_on chars from to stop given passes before =
    grind (arith, range_parts from (to - from) (stop - to), flat_map-append, same_places chars from to to (stop - to))

-- What is seen from the earlier place on is `given` and then what is seen from the later one on.
seen_on : (chars : List Character) (from to : ℕ) (given : List Seen) (frames : List Found) → Passes chars from to given
    → AreFrames chars to frames → sightings chars from frames ≡ given ++ sightings chars to frames
seen_on chars from _ given _ passes (none to empty) = gap_on chars from to (length chars) given passes passes.within
seen_on chars from _ given _ passes (first to found later is are) =
    let before : to ≤ found.start = omega (arith, is.stands.after, is.stands.start) in
    let gap = gap_on chars from to found.start given passes before in
    rw gap (append_assoc given (missed chars to found.start) (Message found ∷ sightings chars found.stop later))

pub passes_on : (chars : List Character) (from to : ℕ) (given later : List Seen) → Passes chars from to given
    → AreSightings chars to later → AreSightings chars from (given ++ later)
passes_on chars from to given later passes are = record {
  frames = are.frames;
  are_frames = AreFrames-earlier chars from to are.frames passes.order
      (λ found stands. StandsIn-from found chars from to stands (passes.frames found stands)) are.are_frames;
  seen_is = rw are.seen_is (sym (seen_on chars from to given are.frames passes are.are_frames));
}

-- If no miss is seen before the first frame, its message is seen first, and then what is seen from its stop on.
pub message_on : (chars : List Character) (from : ℕ) (found : Found) (later : List Seen) → missed chars from found.start ≡ []
    → IsFirst found chars from → AreSightings chars found.stop later → AreSightings chars from (Message found ∷ later)
message_on chars from found later nothing is are = record {
  frames = found ∷ are.frames;
  are_frames = AreFrames.first from found are.frames is are.are_frames;
  seen_is = rw (nothing, are.seen_is) refl;
}

-- Nothing is seen at a row of places if nothing is seen at each of them.
none_between : (chars : List Character) (from a k : ℕ) → ((p : ℕ) → a ≤ p → p < a + k → missed_at chars from p ≡ [])
    → flat_map (λ p. missed_at chars from p) (range_with_len a k) ≡ []
none_between chars from a zero silent = refl
none_between chars from a (suc k) silent =
    let here : missed_at chars from a ≡ [] = silent a (omega arith) (omega arith) in
    let later = none_between chars from (a + 1) k (λ p after before. silent p (omega (arith, after)) (omega (arith, before))) in
    rw (here, later) refl

abbrev pub NoneSeen : List Character → ℕ → ℕ → Type 0
NoneSeen chars from to = (p : ℕ) → from ≤ p → p < to → missed_at chars from p ≡ []

pub missed_none : (chars : List Character) (from stop : ℕ) → NoneSeen chars from stop → missed chars from stop ≡ []
missed_none chars from stop silent = grind (arith, none_between chars from from (stop - from))

-- Where a frame starts, two FF stand right before the place, a character other than FF stands at it, and a whole body begins there.
pub record FrameAt (chars : List Character) (from start : ℕ) : Type 0 where
  pub order : from + 2 ≤ start
  pub within : start < length chars
  pub one : follows_from chars from start ≡ true
  pub two : follows_from chars from (start - 1) ≡ true
  pub other : is_other_at chars start ≡ true
  pub before : is_preamble_at chars (start - 2) ≡ true
  pub last : is_preamble_at chars (start - 1) ≡ true
  pub body : body_miss start (drop start chars) ≡ None

pub frame_at : (chars : List Character) (from : ℕ) (found : Found) → StandsIn found chars from → FrameAt chars from found.start
frame_at chars from found stands =
    let at = starts_at chars found.start preamble (start_of chars found from stands) in
    let body = none_of chars found.start (body_of chars found from stands) in
    let order : from + 2 ≤ found.start = omega (arith, stands.after, stands.start) in
    grind (arith, nat_tests, tested chars (found.start - 1), tested chars (found.start - 2), tested chars found.start)

-- A frame that starts at or after a clean place has its two preamble bytes there or later.
clean_frames : (chars : List Character) (from used : ℕ) (found : Found) → IsClean chars from used → StandsIn found chars from
    → used ≤ found.start → used + 2 ≤ found.start
clean_frames chars from used found clean stands low = grind (arith, frame_at chars from found stands, not_both chars found.start)

-- If no miss is seen before a clean place, and no frame starts before it, the list passes to this place with nothing seen.
pub passes_silent : (chars : List Character) (from used : ℕ) → from ≤ used → used ≤ length chars → NoneSeen chars from used
    → ((found : Found) → StandsIn found chars from → used ≤ found.start) → IsClean chars from used → Passes chars from used []
passes_silent chars from used order within silent frames clean = record {
  order = order;
  within = within;
  told = missed_none chars from used silent;
  frames = λ found stands. clean_frames chars from used found clean stands (frames found stands);
  same = λ place after. same_from chars from used place order after clean;
}

-- If a miss is seen, no miss is seen before it, and no frame starts before it, the list passes to the next place with this miss seen.
pub passes_miss : (chars : List Character) (from start : ℕ) (miss : Miss) → from ≤ start → start < length chars
    → NoneSeen chars from start → missed_at chars from start ≡ Missed start miss (header_at chars start) ∷ []
    → ((found : Found) → StandsIn found chars from → start ≤ found.start) → is_preamble_at chars start ≡ false
    → Passes chars from (start + 1) (Missed start miss (header_at chars start) ∷ [])
passes_miss chars from start miss order within silent is frames other =
    let back : start + 1 - 1 ≡ start = omega arith in
    let clean : IsClean chars from (start + 1) = inl (λ _. rw back other) in record {
      order = omega (arith, order);
      within = omega (arith, within);
      told = grind (arith, range_parts from (start - from) 1, missed_none chars from start silent, flat_map-append, append-nil);
      frames = λ found stands.
          let at = frame_at chars from found stands in
          let here : found.start ≢ start = λ same. grind (arith, after_two chars from start) in
          clean_frames chars from (start + 1) found clean stands (omega (arith, frames found stands, here));
      same = λ place after. same_from chars from (start + 1) place (omega (arith, order)) after clean;
    }
