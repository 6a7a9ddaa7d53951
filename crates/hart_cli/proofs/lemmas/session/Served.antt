-- Texts of a station's answers to lines.
use Rattle.std.proofs.Common.{◌≡◌, ◌≢◌, ℕ, List, [], ◌∷◌, ◌++◌, Option, take, refl, sym, ap, ◌∙◌, append_assoc, append-nil, arith}
use Rattle.std.proofs.lemmas.Grind.{common_steps}
use Rattle.std.specs.Str.Lines.{strip_carriage_return}
use Rattle.hart_cli.specs.input.Input.{CameTo, Ending}
use Rattle.hart_cli.specs.declared.input.InputEnd.TheVariants.{Ended}
use Rattle.hart_cli.specs.session.Session.{HasLines, last_lines}
use Rattle.hart_station.specs.Station.{Manner, Serves, first, line_read, nothing}
use Rattle.hart_cli.specs.session.Server.{most_kept}
use Rattle.hart_cli.proofs.lemmas.session.Lines.{all_empty, no_more, reads_kept}

-- a station that serves a list of lines, and then another list, serves both lists joined
pub Serves-on : {S : Type 0} (M : Manner S) (a b c : S) (xs ys : List (List ℕ)) (s t : List ℕ) → Serves M a xs b s → Serves M b ys c t
    → Serves M a (xs ++ ys) c (s ++ t)
Serves-on M _ b c _ ys _ t (nothing _) k = k
Serves-on M a b c _ ys _ t (first _ next _ one lines said text begun h) k =
    rw append_assoc (first a next c one (lines ++ ys) said (text ++ t) begun (Serves-on M next b c lines ys text t h k))

-- each line has only one answer, and leads to only one station
abbrev pub OneAnswer : {S : Type 0} → Manner S → Type 0
OneAnswer {S} M =
    (station a b : S) (line : Option (List ℕ)) (xs ys : List ℕ) → M station line a xs → M station line b ys → (a ≡ b) × (xs ≡ ys)

-- the text of a station's answers to some lines is unique
pub one_text : {S : Type 0} (M : Manner S) → OneAnswer M → (station a b : S) (lines : List (List ℕ)) (xs ys : List ℕ)
    → Serves M station lines a xs → Serves M station lines b ys → (a ≡ b) × (xs ≡ ys)
one_text M one _ _ _ _ _ _ (nothing station) (nothing _) = (refl, refl)
one_text M one station a b _ _ _ (first _ p _ line lines x s begun h) (first _ q _ _ _ y t also k) =
    let begin = one station p q (line_read line) x y begun also in
    let more = one_text M one q a b lines s t (rw begin.0 at h) k in grind arith

-- two equal lists have the same last item, and the same items before it
one_last : (xs ys : List (List ℕ)) (x y : List ℕ) → xs ++ x ∷ [] ≡ ys ++ y ∷ [] → (xs ≡ ys) × (x ≡ y)
one_last [] [] x y same = grind arith
one_last [] (y1 ∷ []) x y same = absurd (grind (arith, common_steps))
one_last [] (y1 ∷ y2 ∷ ys) x y same = absurd (grind (arith, common_steps))
one_last (x1 ∷ []) [] x y same = absurd (grind (arith, common_steps))
one_last (x1 ∷ x2 ∷ xs) [] x y same = absurd (grind (arith, common_steps))
one_last (x1 ∷ xs) (y1 ∷ ys) x y same =
    let tails : xs ++ x ∷ [] ≡ ys ++ y ∷ [] = grind arith in
    let more = one_last xs ys x y tails in grind arith

-- an input has only one list of lines
pub one_list : (input : List ℕ) (ending : Ending) (xs ys : List (List ℕ)) → HasLines input ending xs → HasLines input ending ys → xs ≡ ys
one_list input ending xs ys h k =
    let same = one_last h.whole k.whole h.last k.last (sym h.split ∙ k.split) in grind arith

-- a last line that is not empty is served
last_of : (last : List ℕ) → last ≢ [] → last_lines (CameTo Ended) last ≡ last ∷ []
last_of [] some = absurd (some refl)
last_of (byte ∷ more) some = refl

-- serving the kept bytes of a last line that is not empty serves that line
pub serves_last_line : {S : Type 0} (M : Manner S) (station after : S) (part kept said : List ℕ) → kept ≡ take most_kept part
    → M station (line_read (strip_carriage_return kept)) after said → strip_carriage_return kept ≢ []
    → Serves M station (last_lines (CameTo Ended) (strip_carriage_return part)) after said
serves_last_line M station after part kept said is served some =
    let whole = rw (is, reads_kept part) at served in
    let more : strip_carriage_return part ≢ [] = λ none. some (ap strip_carriage_return (is ∙ no_more part none) ∙ none) in
    rw (last_of (strip_carriage_return part) more, ← append-nil said)
    (first station after after (strip_carriage_return part) [] said [] whole (nothing after))

-- an empty last line is not served
pub serves_no_line : {S : Type 0} (M : Manner S) (station : S) (part kept : List ℕ) → kept ≡ take most_kept part
    → strip_carriage_return kept ≡ [] → Serves M station (last_lines (CameTo Ended) (strip_carriage_return part)) station []
serves_no_line M station part kept is none =
    let whole : kept ≡ part = is ∙ all_empty part (rw is at none) in
    rw (← whole, none) (nothing station)
