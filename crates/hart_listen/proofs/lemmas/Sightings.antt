-- Sightings that are found one after another, and what is said of them.
use Rattle.std.proofs.Common.{◌≡◌, ◌≤◌, ◌+◌, ℕ, Bool, false, List, [], ◌∷◌, ◌++◌, length, map, drop, refl}
use Rattle.std.proofs.Common.{arith}
use Rattle.std.proofs.lemmas.Grind.{common_steps}
use Rattle.std.proofs.lemmas.List.{drop-append-le, drop-drop, map-append}
use Rattle.hart_frame.specs.heard.Character.{Character}
use Rattle.hart_frame.specs.heard.Sighting.{AreSightings, IsUndecidedSighting, Message, Missed, Seen, SeesOn, moved_seen}
use Rattle.hart_frame.proofs.lemmas.scan.SightingLaws.{all as seen_to_the_end, one as one_list, rest as rest_is_seen, some as some_list}

-- moving a sighting by two numbers moves it by their sum
twice : (a b : ℕ) (s : Seen) → moved_seen a (moved_seen b s) ≡ moved_seen (a + b) s
twice a b (Message found) = grind (arith, common_steps)
twice a b (Missed place miss header) = grind (arith, common_steps)

pub moved_twice : (a b : ℕ) (seen : List Seen) → map (moved_seen a) (map (moved_seen b) seen) ≡ map (moved_seen (a + b)) seen
moved_twice a b [] = refl
moved_twice a b (s ∷ seen) = rw (twice a b s, moved_twice a b seen) refl

-- moving a sighting by 0 leaves it as it is
unmoved : (s : Seen) → moved_seen 0 s ≡ s
unmoved (Message found) = grind (arith, common_steps)
unmoved (Missed place miss header) = grind (arith, common_steps)

pub moved_none : (seen : List Seen) → map (moved_seen 0) seen ≡ seen
moved_none [] = refl
moved_none (s ∷ seen) = rw (unmoved s, moved_none seen) refl

-- the sightings of the rest of a list are sightings of the list, with their places moved
rest_from : (base from : ℕ) (chars : List Character) (seen : List Seen) → AreSightings (drop base chars) from seen
    → AreSightings chars (base + from) (map (moved_seen base) seen)
rest_from base from chars seen are =
    let (last, stands) = some_list (drop (base + from) chars) 0 in
    let same : seen ≡ map (moved_seen from) last =
    one_list (drop base chars) from seen (map (moved_seen from) last) are
    (rest_is_seen from (drop base chars) last (rw (drop-drop from base chars) stands)) in
    rw (same, moved_twice base from last) (rest_is_seen (base + from) chars last stands)

pub sees_rest : (chars : List Character) (ended : Bool) (base from to : ℕ) (given : List Seen) → base ≤ length chars
    → SeesOn (drop base chars) ended from given to → SeesOn chars ended (base + from) (map (moved_seen base) given) (base + to)
sees_rest chars ended base from to given within on more later closed are =
    let whole = chars ++ more in
    let part : drop base whole ≡ drop base chars ++ more = drop-append-le base chars more within in
    let (own, stands) = some_list (drop base chars ++ more) to in
    let same : later ≡ map (moved_seen base) own =
    one_list whole (base + to) later (map (moved_seen base) own) are (rest_from base to whole own (rw part stands)) in
    rw (same, ← map-append (moved_seen base) given own)
    (rest_from base from whole (given ++ own) (rw part (on more own closed stands)))

-- before anything is heard, no sighting is decided
pub undecided_nothing : IsUndecidedSighting []
undecided_nothing first comes =
    let none = seen_to_the_end [] false [] (λ more later closed are. are) in
    let (later, is) = comes [] [] none in absurd cc
