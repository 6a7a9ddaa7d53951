-- What a text keeps if bytes are added piece by piece.
use Rattle.std.proofs.Common.{◌≡◌, ◌≤◌, ◌<◌, ◌+◌, ◌-◌, ◌∙◌, ℕ, zero, suc, List, [], ◌∷◌, ◌++◌, ap, append-nil, append_assoc, arith, get_or}
use Rattle.std.proofs.Common.{length, length-append, refl, sym, take}
use Rattle.std.proofs.lemmas.Bool.Decides.{nat_tests}
use Rattle.std.proofs.lemmas.Grind.{common_steps, flat_map-append}
use Rattle.std.proofs.lemmas.List.{length-take, take_all}
use Rattle.std.proofs.Math.Seq.{take-nil}
use Rattle.std.specs.List.{flat_map}
use Rattle.hart_explain.specs.Text.{extended}

-- the first elements of joined lists are those of the first list, and then those of the second
take-append : (n : ℕ) (xs ys : List ℕ) → take n (xs ++ ys) ≡ take n xs ++ take (n - length xs) ys
take-append zero xs ys = grind arith
take-append (suc n) [] ys = let same : suc n - 0 ≡ suc n = omega arith in rw same refl
take-append (suc n) (x ∷ xs) ys = grind (arith, take-append n xs ys)

-- adding two pieces one after the other is the same as adding them as one piece
pub extended_on : (text xs ys : List ℕ) → extended (extended text xs) ys ≡ extended text (xs ++ ys)
unfolding extended
extended_on text xs ys =
    let room = 32768 - length text in
    let left : 32768 - length (text ++ take room xs) ≡ room - length xs =
    grind (arith, nat_tests, length-append text (take room xs), length-take room xs) in
    rw (left, take-append room xs ys) (append_assoc text (take room xs) (take (room - length xs) ys))

-- if two calls each added a piece, both pieces together were added
pub also : (a b c xs ys : List ℕ) → b ≡ extended a xs → c ≡ extended b ys → c ≡ extended a (xs ++ ys)
also a b c xs ys h k = k ∙ (ap (λ text. extended text ys) h ∙ extended_on a xs ys)

-- if a call added a piece, it added this piece followed by nothing
pub last : (a b xs : List ℕ) → b ≡ extended a xs → b ≡ extended a (xs ++ [])
last a b xs h = rw append-nil h

-- adding no bytes changes nothing
pub extended_nothing : (text : List ℕ) → extended text [] ≡ text
unfolding extended
extended_nothing text = rw (take-nil (32768 - length text)) (append-nil text)

-- the pieces up to index `i + 1` are the pieces up to index `i` and one more
pieces_more : {X : Type 0} (f : X → List ℕ) (xs : List X) (i : ℕ) (d : X) → i < length xs
    → flat_map f (take (i + 1) xs) ≡ flat_map f (take i xs) ++ f (get_or xs i d)
pieces_more f xs i d within = grind (arith, common_steps, flat_map-append)

-- a text with the pieces up to index `i` becomes, by one more piece, the text with the pieces up to index `i + 1`
pub extended_more : {X : Type 0} (f : X → List ℕ) (text : List ℕ) (xs : List X) (i : ℕ) (d : X) → i < length xs
    → extended (extended text (flat_map f (take i xs))) (f (get_or xs i d)) ≡ extended text (flat_map f (take (i + 1) xs))
extended_more f text xs i d within =
    extended_on text (flat_map f (take i xs)) (f (get_or xs i d)) ∙ ap (extended text) (sym (pieces_more f xs i d within))

-- the rules by which pieces that are added to a text become one piece
pub ruleset extending = (extended_on, extended_nothing, append_assoc, append-nil)
