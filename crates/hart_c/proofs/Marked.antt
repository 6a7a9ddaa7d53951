-- The bytes of a port can be read as marks in only one way.
use Rattle.std.proofs.Common.{◌≡◌, ◌≤◌, ◌<◌, ◌-◌, ◌++◌, ◌∙◌, append_assoc, append-nil, arith, refl, sym, ℕ, List, [], ◌∷◌, drop, length}
use Rattle.std.proofs.Common.{take}
use Rattle.std.proofs.lemmas.Grind.{common_steps}
use Rattle.std.proofs.lemmas.List.{length-take-le, take-append-drop}
use Rattle.hart_c.specs.Marks.{AreMarked, IsCut, IsMarked, Unmarks, next, none}
use Rattle.hart_c.specs.declared.find.HartChar.{HartChar}
use Rattle.hart_c.specs.declared.mark.HartUnmarked.{HartUnmarked}

-- like `AreMarked`, but built from the first mark on
data AreRead : List ℕ → List HartChar → Type 0 where
  end : AreRead [] []
  first : (mark bytes : List ℕ) (char : HartChar) (chars : List HartChar) → IsMarked mark char → AreRead bytes chars
      → AreRead (mark ++ bytes) (char ∷ chars)

-- if bytes are read as characters, they still are with one more mark at the end
read_last : (bytes mark : List ℕ) (chars : List HartChar) (char : HartChar) → AreRead bytes chars → IsMarked mark char
    → AreRead (bytes ++ mark) (chars ++ char ∷ [])
read_last bytes mark chars char end is = rw append-nil at (first mark [] char [] is end)
read_last bytes mark chars char (first front others head more begins are) is =
    rw append_assoc (first front (others ++ mark) head (more ++ char ∷ []) begins (read_last others mark more char are is))

-- marks that are read one by one up to the last can be read from the first one on
read_of : (bytes : List ℕ) (chars : List HartChar) → AreMarked bytes chars → AreRead bytes chars
read_of bytes chars none = end
read_of bytes chars (next before mark heard char are is) = read_last before mark heard char (read_of before heard are) is

-- no mark is the beginning of a cut mark
not_cut : (mark rest : List ℕ) (char : HartChar) → IsMarked mark char → IsCut (mark ++ rest) → ⊥
not_cut [] rest char is cut = is
not_cut (a ∷ []) [] char is cut = is.0 cut
not_cut (a ∷ []) (b ∷ []) char is cut = is.0 cut.0
not_cut (a ∷ []) (b ∷ c ∷ rest) char is cut = cut
not_cut (a ∷ b ∷ []) [] char is cut = is.1 cut.1
not_cut (a ∷ b ∷ []) (c ∷ rest) char is cut = cut
not_cut (a ∷ b ∷ c ∷ []) rest char is cut = cut
not_cut (a ∷ b ∷ c ∷ d ∷ more) rest char is cut = is

-- bytes begin with at most one mark, and this mark has one character
one_mark : (mark other rest others : List ℕ) (char another : HartChar) → IsMarked mark char → IsMarked other another
    → mark ++ rest ≡ other ++ others → (mark ≡ other) × (char ≡ another) × (rest ≡ others)
one_mark [] other rest others char another is again same = absurd is
one_mark mark [] rest others char another is again same = absurd again
one_mark (a ∷ b ∷ c ∷ d ∷ more) other rest others char another is again same = absurd is
one_mark mark (a ∷ b ∷ c ∷ d ∷ more) rest others char another is again same = absurd again
one_mark (a ∷ []) (x ∷ []) rest others char another is again same = grind arith
one_mark (a ∷ []) (x ∷ y ∷ []) rest others char another is again same = grind arith
one_mark (a ∷ []) (x ∷ y ∷ z ∷ []) rest others char another is again same = grind arith
one_mark (a ∷ b ∷ []) (x ∷ []) rest others char another is again same = grind arith
one_mark (a ∷ b ∷ []) (x ∷ y ∷ []) rest others char another is again same = grind arith
one_mark (a ∷ b ∷ []) (x ∷ y ∷ z ∷ []) rest others char another is again same = grind arith
one_mark (a ∷ b ∷ c ∷ []) (x ∷ []) rest others char another is again same = grind arith
one_mark (a ∷ b ∷ c ∷ []) (x ∷ y ∷ []) rest others char another is again same = grind arith
one_mark (a ∷ b ∷ c ∷ []) (x ∷ y ∷ z ∷ []) rest others char another is again same = grind arith

-- the same bytes are read in only one way, if reading stops because there is no more room or only a cut mark is left
one_reading : (room : ℕ) (bytes others rest later : List ℕ) (chars heard : List HartChar) → AreRead bytes chars → AreRead others heard
    → bytes ++ rest ≡ others ++ later → length chars ≤ room → length heard ≤ room → (length chars < room → IsCut rest)
    → (length heard < room → IsCut later) → (bytes ≡ others) × (chars ≡ heard)
one_reading room bytes others rest later chars heard end end same few some cut again_cut = (refl, refl)
one_reading room bytes others rest later chars heard end (first mark more char tail is are) same few some cut again_cut =
    absurd (not_cut mark (more ++ later) char is (rw (same, append_assoc mark more later) at cut (grind (arith, common_steps))))
one_reading room bytes others rest later chars heard (first mark more char tail is are) end same few some cut again_cut =
    absurd (not_cut mark (more ++ rest) char is (rw (← same, append_assoc mark more rest) at again_cut (grind (arith, common_steps))))
one_reading room bytes others rest later chars heard (first mark more char tail is are)
    (first front back head behind begins go) same few some
    cut again_cut =
    let whole : mark ++ (more ++ rest) ≡ front ++ (back ++ later) =
    rw (append_assoc mark more rest, append_assoc front back later) at same in
    let one = one_mark mark front (more ++ rest) (back ++ later) char head is begins whole in
    let others_one = one_reading (room - 1) more back rest later tail behind are go one.2 (grind (arith, common_steps))
    (grind (arith, common_steps)) (λ less. cut (grind (arith, common_steps))) (λ less. again_cut (grind (arith, common_steps))) in
    grind (arith, one.0, one.1, others_one.0, others_one.1)

-- the bytes of a port are read in only one way
pub one_unmarked : (bytes : List ℕ) (before after other : List HartChar) (told another : HartUnmarked) → Unmarks bytes before after told
    → Unmarks bytes before other another → (told ≡ another) × (after ≡ other)
one_unmarked bytes before after other told another is again =
    let len : length (take told.len after) ≡ told.len = length-take-le told.len after is.shown in
    let size : length (take another.len other) ≡ another.len = length-take-le another.len other again.shown in
    let used : length (take told.used bytes) ≡ told.used = length-take-le told.used bytes is.used in
    let gone : length (take another.used bytes) ≡ another.used = length-take-le another.used bytes again.used in
    let one = one_reading (length before) (take told.used bytes) (take another.used bytes) (drop told.used bytes) (drop another.used bytes)
    (take told.len after) (take another.len other) (read_of _ _ is.marked) (read_of _ _ again.marked)
    (take-append-drop told.used bytes ∙ sym (take-append-drop another.used bytes)) (grind (arith, len, is.shown, is.room))
    (grind (arith, size, again.shown, again.room)) (λ less. is.left (grind (arith, len, is.room)))
    (λ less. again.left (grind (arith, size, again.room))) in
    let same_len : told.len ≡ another.len = grind (arith, len, size, one.1) in
    let same_used : told.used ≡ another.used = grind (arith, used, gone, one.0) in
    let same : after ≡ other =
    sym (take-append-drop told.len after)
    ∙ grind (arith, one.1, is.untouched, again.untouched, same_len, take-append-drop another.len other) in
    (grind (arith, same_len, same_used), same)
