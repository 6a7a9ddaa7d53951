-- What stays undecided when a scanner passes some characters. If the characters that follow change which sighting comes first, no sighting
-- is decided.
use Rattle.hart_frame.proofs.Common.{add-zero, ◌≡◌, ℕ, ◌+◌, ◌<◌, ◌≤◌, inl, inr, false, List, [], ◌∷◌, ◌++◌, length, take, refl, sym, arith}
use Rattle.hart_frame.proofs.Common.{Found, append_assoc, length-append, length-take-le, take-append-drop, Character, faultless, AreFrames}
use Rattle.hart_frame.proofs.Common.{none, HasNoFrame, IsUndecided, StandsIn, AreNext, Scan, MovesPast, GivesNothing, Gives, Waits, ◌≢◌}
use Rattle.hart_frame.proofs.Common.{zero, suc, ◌-◌, ◌⊎◌, drop, get_or, None, Some, Option, ◌∙◌, length-drop, append-nil, drop_more}
use Rattle.hart_frame.proofs.Common.{get_or-drop, All, length-map, All-drop, flat_map, range_with_len, option_map_or, Miss, OnePreamble}
use Rattle.hart_frame.proofs.Common.{More, body_miss, AreSightings, Message, Missed, Seen, header_at, miss_in_whole, missed_at, sightings}
use Rattle.hart_frame.proofs.Common.{HeaderParts, heard_with, IsAsked, MayStandAlone, After, IsTruncated, cut_miss, All-cons, All-map}
use Rattle.hart_frame.proofs.Common.{seen_miss, IsStandingAt, IsUsed}
use Rattle.hart_frame.specs.scan.Chunk.{BeginsWithFrame}
use Rattle.hart_frame.proofs.lemmas.heard.FramesFound.{AreFrames-found, head_first, open_begins}
use Rattle.hart_frame.proofs.lemmas.heard.Rest.{none_moved, some_moved, stands_back}
use Rattle.hart_frame.proofs.lemmas.scan.Next.{next_frames, next_some}
use Rattle.hart_frame.proofs.lemmas.scan.Scan.{moves_length}
use Rattle.hart_frame.specs.heard.Sighting.{IsUndecidedSighting}
use Rattle.hart_frame.specs.declared.scan.sighting.Standing.TheVariants.{Open}
use Rattle.hart_frame.proofs.lemmas.scan.Alone.{may_moved}
use Rattle.hart_frame.proofs.lemmas.heard.Place.{StandsIn-within}
use Rattle.hart_frame.proofs.lemmas.heard.Seen.{message_on, missed_none, passes_on}
use Rattle.hart_frame.proofs.lemmas.heard.Sighting.{after_one, not_both, not_other}
use Rattle.hart_frame.proofs.lemmas.heard.Missed.{cut_told}
use Rattle.hart_frame.proofs.lemmas.scan.BodyAt.{miss_end}
use Rattle.hart_frame.proofs.lemmas.scan.SightingLaws.{some as some_sightings}
use Rattle.hart_frame.proofs.lemmas.wire.Reading.{truncated_cut}
use Rattle.hart_frame.proofs.lemmas.scan.NextSeen.{miss_one, miss_two, two_parts}
use Rattle.hart_frame.proofs.lemmas.scan.Sighted.{SilentBefore, late, none_seen, preamble_yes}

-- Suppose that a list has the same frames from `from` on as from `to` on. For each frame that stands from `from` on, some frame stands from
-- `to` on and starts no later.
same_first : (chars : List Character) (from to : ℕ) (frames : List Found) (found : Found) → AreFrames chars from frames
    → AreFrames chars to frames → StandsIn found chars from → (g : Found) × StandsIn g chars to × (g.start ≤ found.start)
same_first chars from to [] found (none n empty) new stands = absurd (empty found stands)
same_first chars from to (g ∷ later) found old new stands =
    (g, (head_first chars to g later new).stands, (head_first chars from g later old).least found stands)

-- What was held consists of the characters that were passed, followed by what is held now.
held_parts : (s t : Scan) → (moves : MovesPast s t []) → s.held ≡ take moves.count s.held ++ t.held
held_parts s t moves = rw moves.held (sym (take-append-drop moves.count s.held))

-- If a frame stands in what was held, a frame that starts no later stands in what is held after some characters are passed.
still_stands : (s t : Scan) (moves : MovesPast s t []) (found : Found) → StandsIn found s.held 0
    → (g : Found) × StandsIn g t.held 0 × (moves.count + g.start ≤ found.start)
still_stands s t moves found stands =
    let n = moves.count in
    let (later, are) = AreFrames-found s.held n in
    let nothing : AreNext s.held s.finished 0 [] n = rw (none_moved s.first moves.found moves.given_are) at moves.next in
    let (g, there, early) = same_first s.held 0 n later found (next_frames s.held s.finished 0 n [] later nothing are) are stands in
    let front = length-take-le n s.held moves.next.within in
    (_, stands_back (take n s.held) t.held g n 0 front (rw (add-zero n, ← held_parts s t moves) there), omega (arith, early))

-- If no frame is held after some characters are passed, none was held before.
pub nothing_before : (s t : Scan) → MovesPast s t [] → HasNoFrame t.held 0 → HasNoFrame s.held 0
nothing_before s t moves empty found stands = let there = still_stands s t moves found stands in empty there.0 there.1

-- If nothing is decided after some characters are passed, nothing was decided before.
pub undecided_before : (s t : Scan) → MovesPast s t [] → IsUndecided t.held → IsUndecided s.held
undecided_before s t moves (inl empty) = inl (nothing_before s t moves empty)
undecided_before s t moves (inr (place, opened, before)) =
    let prefix = take moves.count s.held ++ opened.prefix in
    let split : s.held ≡ prefix ++ faultless (255 ∷ 255 ∷ opened.bytes) =
    grind (arith, held_parts s t moves, append_assoc) in
    let front = length-take-le moves.count s.held moves.next.within in
    inr (
      length prefix + 2,
      record { prefix = prefix; bytes = opened.bytes; split = split; start = refl; truncated = opened.truncated },
      λ found stands.
          let there = still_stands s t moves found stands in
          omega (arith, before there.0 there.1, there.2, opened.start, length-append (take moves.count s.held) opened.prefix, front),
    )

-- A scanner that gives nothing does not begin with a frame.
pub holds_gives : (old new : Scan) → BeginsWithFrame old → GivesNothing old new → ⊥
holds_gives old new (found, stands, start) (inl waits) = elim (undecided_before old new waits.moves waits.undecided) [
  | inl empty ↦ empty found stands
  | inr (place, opened, before) ↦ omega (arith, before found stands, start, opened.start)
]
holds_gives old new (found, stands, start) (inr ends) = ends.none found stands

-- A scanner that is not finished and gives nothing waits.
pub waits_only : (old new : Scan) → old.finished ≡ false → GivesNothing old new → Waits old new
waits_only old new going nothing = grind arith

-- A scanner holds fewer characters after it gives a frame.
pub gives_onward : (old new : Scan) (found : Found) → Gives old new found → length new.held < length old.held
gives_onward old new found gives =
    let moves = gives.moves in
    let (one, others, same) = some_moved old.first found [] moves.found moves.given_are in
    let some = next_some old.held old.finished 0 moves.count one others (rw same at moves.next) in
    omega (arith, some.0, some.1, some.2, moves_length old new (found ∷ []) moves, moves.first)

-- After two FF stand bytes that end too early for a body.
module _ (rest : List ℕ) (fit : All (λ byte. byte < 256) rest) (truncated : IsTruncated rest) (some : 0 < length rest) where
  silent_two : SilentBefore (255 ∷ 255 ∷ rest) More 0 2
  silent_two place is below = grind arith

  pub undecided_two : IsUndecidedSighting (faultless (255 ∷ 255 ∷ rest))
  undecided_two first always =
      let whole = faultless (255 ∷ 255 ∷ rest) in
      let (missing, cut) = truncated_cut rest truncated in
      let wrong : body_miss 2 (drop 2 (whole ++ [])) ≡ Some (cut_miss missing) =
      grind (arith, append-nil, miss_end rest 2, cut_told rest missing None (2 + length rest) 2 cut) in
      let asked : IsAsked (255 ∷ 255 ∷ rest) More 0 2 = grind (arith, length-map) in
      let passes = miss_two (255 ∷ 255 ∷ rest) More [] 0 2 tt silent_two asked _ (omega arith, refl) wrong in
      let (later, are) = some_sightings (whole ++ []) 3 in
      let one = always [] _ (passes_on (whole ++ []) 0 3 _ later passes are) in
      let fits : All (λ character. character.byte < 256) whole =
      All-map (λ (c : Character). c.byte < 256) (λ (byte : ℕ). let c : Character = record { byte = byte; faults = 0 } in c)
      (255 ∷ 255 ∷ rest)
      (All-cons (λ byte. byte < 256) 255 (255 ∷ rest) (omega arith) (All-cons (λ byte. byte < 256) 255 rest (omega arith) fit)) in
      let (more, found, stands, at) = open_begins 2 whole fits
      (record { prefix = []; bytes = rest; split = refl; start = refl; truncated = truncated }) in
      let chars = whole ++ more in
      let silent = none_seen (255 ∷ 255 ∷ rest) More more 0 2 tt silent_two (omega arith) in
      let (after, are_after) = some_sightings chars found.stop in
      let two = always more _ (message_on chars 0 found after
      (missed_none chars 0 found.start (λ p low high. silent p low (omega (arith, high, at))))
      (record {
        stands = stands;
        least = λ other stands.
            omega (arith, at, late (255 ∷ 255 ∷ rest) More more 0 2 tt silent_two (omega arith) other stands);
      }) are_after) in
      cc (one.1, two.1)

-- At a place either nothing or one miss is seen. If nothing is seen at a place, the first sighting is not a miss of that place.
form : (m : Option Miss) (h : Option HeaderParts) (from place : ℕ)
    → (option_map_or (λ miss. Missed place (miss_in_whole from miss) h ∷ []) m [] ≡ [])
    ⊎ ((miss : Miss) × (option_map_or (λ miss. Missed place (miss_in_whole from miss) h ∷ []) m [] ≡ Missed place miss h ∷ []))
form m h from place = grind arith

not_first : (chars : List Character) (a k : ℕ) (tail later : List Seen) (miss : Miss) (h : Option HeaderParts) → missed_at chars 0 1 ≡ []
    → (tail ≡ Missed 1 miss h ∷ later → ⊥)
    → flat_map (λ p. missed_at chars 0 p) (range_with_len a k) ++ tail ≡ Missed 1 miss h ∷ later → ⊥
not_first chars a zero tail later miss h unseen not is = not is
not_first chars a (suc k) tail later miss h unseen not is = elim (form (seen_miss (drop 0 chars) (a - 0)) (header_at chars a) 0 a) [
  | inl nil ↦ not_first chars (a + 1) k tail later miss h unseen not (rw nil at is)
  | inr (other, one) ↦
      let both = rw one at is in
      let same : a ≡ 1 = cc in
      let clash = sym unseen ∙ rw same at one in cc (clash)
]

not_one : (chars : List Character) (frames : List Found) (later : List Seen) (miss : Miss) (h : Option HeaderParts)
    → missed_at chars 0 1 ≡ [] → sightings chars 0 frames ≡ Missed 1 miss h ∷ later → ⊥
not_one chars [] later miss h unseen is = not_first chars 0 (length chars - 0) [] later miss h unseen (λ same. cc) (append-nil _ ∙ is)
not_one chars (found ∷ frames) later miss h unseen is =
    not_first chars 0 (found.start - 0) (Message found ∷ sightings chars found.stop frames) later miss h unseen (λ same. cc) is

-- After a single FF stand bytes that may or may not become a body that stands alone.
module _ (rest : List ℕ) (some : 0 < length rest) (other : get_or rest 0 0 ≢ 255) (may : MayStandAlone (255 ∷ rest) 1) where
  pub undecided_one : IsUndecidedSighting (faultless (255 ∷ rest))
  undecided_one first always =
      let whole = faultless (255 ∷ rest) in
      let asked : IsAsked (255 ∷ rest) More 0 1 = grind (arith, length-map) in
      let passes = miss_one (255 ∷ rest) More may.one 0 1 tt (λ place is below. grind arith) asked (λ two. omega (arith, two.0))
      may.alone in
      let (later, are) = some_sightings (whole ++ may.one) 2 in
      let one = always may.one _ (passes_on (whole ++ may.one) 0 2 _ later passes are) in
      let chars = whole ++ may.other in
      let (frames, are_frames) = AreFrames-found chars 0 in
      let two = always may.other (sightings chars 0 frames) (record { frames = frames; are_frames = are_frames; seen_is = refl }) in
      let unseen : missed_at chars 0 1 ≡ [] = after_one chars 0 1 (omega arith) refl refl ∙ rw may.not_alone refl in
      let h = header_at (whole ++ may.one) 1 in
      let same : first ≡ Missed 1 OnePreamble h = cc (one.1) in
      not_one chars frames two.0 OnePreamble h unseen (rw same at two.1)

-- If the bytes are at most two FF, no sighting is decided.
pub undecided_few : (bytes : List ℕ) → length bytes ≤ 2 → ((i : ℕ) → i < length bytes → get_or bytes i 0 ≡ 255)
    → IsUndecidedSighting (faultless bytes)
undecided_few bytes few preambles first always =
    let chars = faultless bytes ++ [] in
    let long : length chars ≡ length bytes = grind (arith, append-nil, length-map) in
    let are : AreSightings chars 0 [] = record {
      frames = [];
      are_frames = AreFrames.none 0 (λ found stands.
          let at = StandsIn-within found chars 0 stands in omega (arith, at.after, at.some, at.within, long, few));
      seen_is = sym (missed_none chars 0 (length chars) (λ p low high.
          not_other chars 0 p low (not_both chars p
          (preamble_yes bytes [] p (omega (arith, high, long)) (preambles p (omega (arith, high, long)))))));
    } in
    let unseen = always [] [] are in
    cc (unseen.1)

-- The bytes that are not used up decide no sighting.
pub undecided_used : (bytes : List ℕ) (from used : ℕ) → IsUsed bytes from used → IsUndecidedSighting (faultless (drop used bytes))
undecided_used bytes from used (low, cases) =
    let long = length-drop used bytes in
    undecided_few (drop used bytes) (omega (arith, long, cases)) (λ i below.
    let here : (i ≡ 0) ⊎ (i ≡ 1) = grind arith in grind (arith, get_or-drop))

-- The bytes from the preamble bytes before an open place on decide no sighting.
pub open_undecided : (bytes : List ℕ) (after : After) (place from start used : ℕ) → All (λ byte. byte < 256) bytes
    → IsAsked bytes after place start → after ≡ More → IsStandingAt bytes after from start (Open used)
    → IsUndecidedSighting (faultless (drop used bytes))
open_undecided bytes after place from start used fit is more (inl (two, (more_is, at, truncated))) =
    let heard : length (heard_with bytes after) ≡ length bytes = rw more (grind (arith, length-map)) in
    let some : 0 < length (drop start bytes) = omega (arith, is.heard, heard, length-drop start bytes) in
    let same : start - 2 ≡ used = omega (arith, at) in
    let parts = rw same at (two_parts bytes start (omega (arith, at)) is.within two.1 is.preamble) in
    rw parts (undecided_two (drop start bytes) (All-drop (λ byte. byte < 256) start bytes fit) truncated some)
open_undecided bytes after place from start used fit is more (inr (one, (more_is, at, few, may))) =
    let heard : length (heard_with bytes after) ≡ length bytes = rw more (grind (arith, length-map)) in
    let some : 0 < length (drop start bytes) = omega (arith, is.heard, heard, length-drop start bytes) in
    let parts : drop used bytes ≡ 255 ∷ drop start bytes = grind (arith, drop_more bytes used 0, is.preamble, is.within) in
    let other : get_or (drop start bytes) 0 0 ≢ 255 = λ same. is.other (omega (arith, is.heard, heard)) (grind (arith, get_or-drop)) in
    rw parts (undecided_one (drop start bytes) some other
    (may_moved bytes (255 ∷ drop start bytes) start 1 is.within (omega arith) refl may))
