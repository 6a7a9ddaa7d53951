-- The sightings given one after another are all sightings of a list, and a list has only one list of sightings.
use Rattle.hart_frame.proofs.Common.{◌≡◌, ◌≤◌, ℕ, Bool, false, List, [], ◌++◌, length, drop, map, sym, arith, refl, append_assoc, Seen}
use Rattle.hart_frame.proofs.Common.{append-nil, drop-append-le, IsTrue, Character, AreFrames, AreSightings, sightings, SeesOn, moved_seen}
use Rattle.hart_frame.proofs.Common.{common_steps}
use Rattle.hart_frame.proofs.lemmas.heard.FramesFound.{AreFrames-found, AreFrames-one}
use Rattle.hart_frame.proofs.lemmas.heard.Place.{HasNoFrame-end}
use Rattle.hart_frame.proofs.lemmas.heard.Rest.{rest_frames}
use Rattle.hart_frame.proofs.lemmas.heard.Seen.{missed_none}
use Rattle.hart_frame.proofs.lemmas.heard.Sighting.{sightings_moved}

pub rest : (place : ℕ) (chars : List Character) (seen : List Seen)
    → AreSightings (drop place chars) 0 seen → AreSightings chars place (map (moved_seen place) seen)
rest place chars seen are = grind (arith, rest_frames place chars are.frames, sightings_moved chars place 0 are.frames)

pub onward : (chars : List Character) (ended : Bool) (from to after : ℕ) (given found : List Seen)
    → SeesOn chars ended from given to → SeesOn chars ended to found after → SeesOn chars ended from (given ++ found) after
onward chars ended from to after given found first second more later closed are = grind (arith, common_steps, append_assoc)

pub grown : (chars piece : List Character) (ended : Bool) (from to : ℕ) (given : List Seen)
    → SeesOn chars false from given to → SeesOn (chars ++ piece) ended from given to
grown chars piece ended from to given sees more later closed are = grind (arith, common_steps, append_assoc)

pub rest_all : (chars more : List Character) (ended : Bool) (given later : List Seen) (to : ℕ) → to ≤ length chars
    → SeesOn chars ended 0 given to → (IsTrue ended → more ≡ []) → AreSightings (drop to chars ++ more) 0 later
    → AreSightings (chars ++ more) 0 (given ++ map (moved_seen to) later)
rest_all chars more ended given later to within sees closed are =
    sees more (map (moved_seen to) later) closed (rest to (chars ++ more) later (rw (drop-append-le to chars more within) are))

pub all : (chars : List Character) (ended : Bool) (given : List Seen) → SeesOn chars ended 0 given (length chars)
    → AreSightings chars 0 given
all chars ended given sees =
    let end : AreSightings (chars ++ []) (length chars) [] = record {
      frames = [];
      are_frames = AreFrames.none (length chars) (HasNoFrame-end (chars ++ []) (length chars) (grind (arith, append-nil)));
      seen_is = sym (missed_none (chars ++ []) (length chars) (length (chars ++ [])) (λ p low high. absurd (grind (arith, append-nil))));
    } in
    rw append-nil at (rw append-nil at (sees [] [] (λ _. refl) end))

pub one : (chars : List Character) (from : ℕ) (xs ys : List Seen) → AreSightings chars from xs → AreSightings chars from ys → xs ≡ ys
one chars from xs ys first second = grind (arith, AreFrames-one)

pub some : (chars : List Character) (from : ℕ) → (seen : List Seen) × AreSightings chars from seen
some chars from =
    let (frames, are) = AreFrames-found chars from in
    (sightings chars from frames, record { frames = frames; are_frames = are; seen_is = refl })
