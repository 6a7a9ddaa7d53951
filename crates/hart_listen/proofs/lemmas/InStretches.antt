-- The sightings in stretches of characters.
use Rattle.std.proofs.Common.{◌≡◌, ◌+◌, ◌∙◌, ℕ, List, [], ◌∷◌, ◌++◌, length, map, refl, sym, ap, arith, append_assoc}
use Rattle.hart_frame.specs.heard.Character.{Character}
use Rattle.hart_frame.specs.heard.Sighting.{Seen, moved_seen}
use Rattle.hart_frame.proofs.lemmas.scan.SightingLaws.{one as one_list, some as some_list}
use Rattle.hart_text.specs.Heard.{Date, Heard, HeardChar, Silence, after_chars, heard_chars, stretches}
use Rattle.hart_listen.specs.Sightings.{AreSightingsFrom}
use Rattle.hart_listen.specs.Listener.{total}

-- what was heard has at least one stretch
pub one_stretch : (heard : List Heard) → (first : List Character) × (later : List (List Character)) × (stretches heard ≡ first ∷ later)
one_stretch [] = ([], [], refl)
one_stretch (Silence ∷ heard) = ([], stretches heard, refl)
one_stretch (Date word ∷ heard) = one_stretch heard
one_stretch (HeardChar character ∷ heard) =
    let (first, later, is) = one_stretch heard in (character ∷ first, later, rw is refl)

-- putting no characters before stretches changes nothing
pub after_nothing : (heard : List Heard) → after_chars [] (stretches heard) ≡ stretches heard
after_nothing heard = let (first, later, is) = one_stretch heard in rw is refl

-- characters put before stretches in two steps can be put there as one list
pub after_twice : (xs ys : List Character) (later : List (List Character))
    → after_chars xs (after_chars ys later) ≡ after_chars (xs ++ ys) later
after_twice xs ys [] = refl
after_twice xs ys (first ∷ later) = rw append_assoc refl

-- characters that were heard first are at the beginning of the first stretch
pub stretches_chars : (xs : List Character) (heard : List Heard) → stretches (heard_chars xs ++ heard) ≡ after_chars xs (stretches heard)
stretches_chars [] heard = sym (after_nothing heard)
stretches_chars (x ∷ xs) heard =
    ap (after_chars (x ∷ [])) (stretches_chars xs heard) ∙ after_twice (x ∷ []) xs (stretches heard)

-- two lists of stretches, joined, have as many characters as both together
pub total_on : (xs ys : List (List Character)) → total (xs ++ ys) ≡ total xs + total ys
total_on [] ys = omega arith
total_on (chars ∷ xs) ys = omega (arith, total_on xs ys)

-- stretches have at most one list of sightings
pub one_seen : (first : ℕ) (parts : List (List Character)) (xs ys : List Seen) → AreSightingsFrom first parts xs
    → AreSightingsFrom first parts ys → xs ≡ ys
one_seen first [] xs ys h k = h ∙ sym k
one_seen first (chars ∷ later) xs ys (own, are, rest, more, is) (own', are', rest', more', is') =
    let same = one_list chars 0 own own' are are' in
    let after = one_seen (first + length chars) later rest rest' more more' in
    is ∙ (rw (same, after) refl ∙ sym is')

-- stretches have at least one list of sightings
pub some_seen : (first : ℕ) (parts : List (List Character)) → (seen : List Seen) × AreSightingsFrom first parts seen
some_seen first [] = ([], refl)
some_seen first (chars ∷ later) =
    let (own, are) = some_list chars 0 in
    let (rest, more) = some_seen (first + length chars) later in
    (map (moved_seen first) own ++ rest, (own, are, rest, more, refl))

-- the sightings of some stretches, followed by those of later stretches, are the sightings of all of them
pub seen_on : (first : ℕ) (xs ys : List (List Character)) (seen later : List Seen) → AreSightingsFrom first xs seen
    → AreSightingsFrom (first + total xs) ys later → AreSightingsFrom first (xs ++ ys) (seen ++ later)
seen_on first [] ys seen later h k = let same : first + 0 ≡ first = omega arith in rw h (rw same at k)
seen_on first (chars ∷ xs) ys seen later (own, are, rest, more, is) k =
    let place : first + (length chars + total xs) ≡ first + length chars + total xs = omega arith in
    (own, are, rest ++ later, seen_on (first + length chars) xs ys rest later more (rw place at k), rw (is, append_assoc) refl)
