-- Lemmas about joined parts of data, and about lists spelled out byte by byte.
use Rattle.std.proofs.Common.{◌≡◌, ℕ, ◌≤◌, zero, suc, List, [], ◌∷◌, ◌++◌, take, drop, length, map, refl, subst, arith, slice_index}
use Rattle.std.proofs.Common.{ap, append-nil, sym}
use Rattle.std.proofs.lemmas.Grind.{common_steps}
use Rattle.std.proofs.lemmas.List.{take_all}
use Rattle.std.specs.List.{flat_map}
use Rattle.hart_commands.specs.Values.{joined, one, unit_value_bytes, unit_value_parts}
use Rattle.hart_commands.specs.declared.value.UnitValue.{UnitValue}

-- the first n bytes of a list, one by one
abbrev pub spell : ℕ → List ℕ → List ℕ
spell zero xs = []
spell (suc n) xs = slice_index xs 0 ∷ spell n (drop 1 xs)

pub spelled_front : (n : ℕ) (xs : List ℕ) → n ≤ length xs → spell n xs ++ drop n xs ≡ xs
spelled_front zero xs long = refl
spelled_front (suc n) [] long = grind arith
spelled_front (suc n) (x ∷ xs) long = grind (arith, spelled_front n xs)

pub spelled : (n : ℕ) (xs : List ℕ) → length xs ≡ n → spell n xs ≡ xs
spelled n xs long = grind (arith, common_steps, spelled_front n xs)

pub whole : (n : ℕ) (xs : List ℕ) → length xs ≡ n → take n xs ≡ xs
whole n xs long = take_all n xs (omega (arith, long))

-- To prove a fact for every list of `n` bytes, it is enough to prove it for the lists that `spell` writes byte by byte.
pub by_spelling : (n : ℕ) (P : List ℕ → Type 0) → ((xs : List ℕ) → P (spell n xs)) → (xs : List ℕ) → length xs ≡ n → P xs
by_spelling n P each xs long = subst P (spelled n xs long) (each xs)

-- joining some bytes and the parts of values with units gives these bytes, then the bytes of the values
pub joined_values : (bytes : List ℕ) (vs : List UnitValue)
    → joined (bytes ∷ flat_map unit_value_parts vs) ≡ bytes ++ flat_map unit_value_bytes vs
joined_values bytes [] = sym (append-nil bytes)
joined_values bytes (v ∷ vs) = ap (λ xs. bytes ++ v.unit ∷ xs) (joined_values v.value.0 vs)

-- if each byte is a part of its own, joining the parts gives the bytes
pub joined_singles : (xs : List ℕ) → joined (map one xs) ≡ xs
joined_singles [] = refl
joined_singles (x ∷ []) = refl
joined_singles (x ∷ y ∷ ys) = ap (λ zs. x ∷ zs) (joined_singles (y ∷ ys))
