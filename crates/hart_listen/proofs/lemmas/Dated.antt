-- Sightings with their dates, and with what earlier sightings say of them.
use Rattle.std.proofs.Common.{◌≡◌, ◌∙◌, ◌+◌, ℕ, List, [], ◌∷◌, ◌++◌, map, refl, sym, ap, append_assoc, append-nil}
use Rattle.std.proofs.lemmas.Grind.{flat_map-append}
use Rattle.std.proofs.lemmas.List.{map-append}
use Rattle.std.specs.List.{flat_map}
use Rattle.hart_frame.specs.heard.Sighting.{Seen, moved_seen}
use Rattle.hart_listen.specs.Before.{AreAlike, before_of}
use Rattle.hart_listen.specs.Dated.{Dated, dated_after, dated_one}
use Rattle.hart_listen.specs.LastMessages.{LastMessages, recalled}
use Rattle.hart_listen.specs.Listener.{dated_from}
use Rattle.hart_listen.proofs.lemmas.Sightings.{moved_twice}

-- sightings and later ones, dated, are both dated in one list
pub dated_then : (date : ℕ → List ℕ) (earlier seen later : List Seen)
    → dated_after date earlier (seen ++ later) ≡ dated_after date earlier seen ++ dated_after date (earlier ++ seen) later
dated_then date earlier [] later = ap (λ xs. dated_after date xs later) (sym (append-nil earlier))
dated_then date earlier (s ∷ seen) later =
    let after = earlier ++ s ∷ [] in
    let rest : dated_after date after (seen ++ later) ≡ dated_after date after seen ++ dated_after date (earlier ++ s ∷ seen) later =
    dated_then date after seen later
    ∙ ap (λ xs. dated_after date after seen ++ dated_after date xs later) (append_assoc earlier (s ∷ []) seen) in
    ap (λ xs. dated_one date earlier s ∷ xs) rest

-- the texts of sightings and of later ones are the texts of both in one list
pub text_then : (text : Dated → List ℕ) (date : ℕ → List ℕ) (earlier seen later : List Seen)
    → flat_map text (dated_after date earlier (seen ++ later))
    ≡ flat_map text (dated_after date earlier seen) ++ flat_map text (dated_after date (earlier ++ seen) later)
text_then text date earlier seen later =
    ap (flat_map text) (dated_then date earlier seen later)
    ∙ flat_map-append text (dated_after date earlier seen) (dated_after date (earlier ++ seen) later)

-- sightings after lists that are alike are dated alike
dated_alike : (date : ℕ → List ℕ) (one other between later : List Seen) → AreAlike one other
    → dated_after date (one ++ between) later ≡ dated_after date (other ++ between) later
dated_alike date one other between [] alike = refl
dated_alike date one other between (s ∷ later) alike =
    let after = dated_alike date one other (between ++ s ∷ []) later alike in
    let rest : dated_after date ((one ++ between) ++ s ∷ []) later ≡ dated_after date ((other ++ between) ++ s ∷ []) later =
    ap (λ xs. dated_after date xs later) (append_assoc one between (s ∷ []))
    ∙ (after ∙ ap (λ xs. dated_after date xs later) (sym (append_assoc other between (s ∷ [])))) in
    rw (alike between s, rest) refl

alike_dated : (date : ℕ → List ℕ) (a b seen : List Seen) → AreAlike a b → dated_after date a seen ≡ dated_after date b seen
alike_dated date a b seen alike =
    ap (λ xs. dated_after date xs seen) (sym (append-nil a))
    ∙ (dated_alike date a b [] seen alike ∙ ap (λ xs. dated_after date xs seen) (append-nil b))

-- equal lists are alike
pub alike_same : (one other : List Seen) → one ≡ other → AreAlike one other
alike_same one other same = λ between s. ap (λ xs. before_of (xs ++ between) s) same

alike_trans : (a b c : List Seen) → AreAlike a b → AreAlike b c → AreAlike a c
alike_trans a b c h k = λ between s. h between s ∙ k between s

-- alike lists stay alike if the same sightings follow both
alike_on : (a b more : List Seen) → AreAlike a b → AreAlike (a ++ more) (b ++ more)
alike_on a b more h = λ between s.
    ap (λ xs. before_of xs s) (append_assoc a more between)
    ∙ (h (more ++ between) s ∙ ap (λ xs. before_of xs s) (sym (append_assoc b more between)))

-- some sightings, followed by later ones whose places are counted from their end, are one list of sightings
both : (first used : ℕ) (seen given : List Seen) → map (moved_seen first) seen ++ map (moved_seen (first + used)) given
    ≡ map (moved_seen first) (seen ++ map (moved_seen used) given)
both first used seen given = rw (map-append, moved_twice first used given) refl

alike_both : (a b c one more : List Seen) → AreAlike b (a ++ one) → AreAlike c (b ++ more) → AreAlike c (a ++ (one ++ more))
alike_both a b c one more h k =
    alike_trans c (b ++ more) (a ++ (one ++ more)) k
    (alike_trans (b ++ more) ((a ++ one) ++ more) (a ++ (one ++ more)) (alike_on b (a ++ one) more h)
    (alike_same ((a ++ one) ++ more) (a ++ (one ++ more)) (append_assoc a one more)))

pub alike_then : (a b c : List Seen) (first used : ℕ) (seen given : List Seen)
    → AreAlike b (a ++ map (moved_seen first) seen) → AreAlike c (b ++ map (moved_seen (first + used)) given)
    → AreAlike c (a ++ map (moved_seen first) (seen ++ map (moved_seen used) given))
alike_then a b c first used seen given h k =
    rw (both first used seen given) at
    (alike_both a b c (map (moved_seen first) seen) (map (moved_seen (first + used)) given) h k)

-- all that was told, followed by the next sightings, are all of them
pub told_more : (told seen given : List Seen) (first used : ℕ)
    → (told ++ map (moved_seen first) seen) ++ map (moved_seen (first + used)) given
    ≡ told ++ map (moved_seen first) (seen ++ map (moved_seen used) given)
told_more told seen given first used =
    append_assoc told (map (moved_seen first) seen) (map (moved_seen (first + used)) given)
    ∙ ap (λ xs. told ++ xs) (both first used seen given)

pub dated_more : (last : LastMessages) (date : ℕ → List ℕ) (told seen given : List Seen) (first used : ℕ)
    → AreAlike (recalled last) (told ++ map (moved_seen first) seen)
    → dated_after date [] (told ++ map (moved_seen first) seen) ++ dated_from last date (first + used) given
    ≡ dated_after date [] (told ++ map (moved_seen first) (seen ++ map (moved_seen used) given))
dated_more last date told seen given first used alike =
    let one = map (moved_seen first) seen in
    let more = map (moved_seen (first + used)) given in
    ap (λ xs. dated_after date [] (told ++ one) ++ xs) (alike_dated date (recalled last) (told ++ one) more alike)
    ∙ (sym (dated_then date [] (told ++ one) more)
    ∙ ap (dated_after date []) (told_more told seen given first used))
