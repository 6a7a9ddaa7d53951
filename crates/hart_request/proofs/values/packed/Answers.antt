use Rattle.std.proofs.Common.{◌≡◌, ◌<◌, ℕ, suc, List, [], ◌∷◌, refl, arith}
use Rattle.std.proofs.lemmas.Grind.{common_steps}
use Rattle.std.proofs.lemmas.List.{get_or-drop}
use Rattle.hart_values.specs.packed_text.Packing.{IsPacked, IsPackedGroup}
use Rattle.hart_request.specs.Values.{packed, packed_group}
use Rattle.hart_request.proofs.values.packed.Goals as goal

-- a packed group has the bytes that its characters are packed into
group_is : (w x y z a b c : ℕ) → a < 256 → b < 256 → c < 256 → IsPackedGroup w x y z a b c → a ∷ b ∷ c ∷ [] ≡ packed_group w x y z
group_is w x y z a b c p q r is = grind arith

-- without its first group, a packed text is still packed
rest_packed : (w x y z a b c : ℕ) (text bytes : List ℕ) → IsPacked (w ∷ x ∷ y ∷ z ∷ text) (a ∷ b ∷ c ∷ bytes) → IsPacked text bytes
rest_packed w x y z a b c text bytes p = record {
  lengths = omega (arith, p.lengths);
  characters = λ i d below. p.characters (suc (suc (suc (suc i)))) d (omega arith);
  bytes_fit = λ i d below. p.bytes_fit (suc (suc (suc i))) d (omega arith);
  groups = λ place below.
      let at_next = p.groups (suc place) (omega arith) in
      grind (arith, get_or-drop 4 (w ∷ x ∷ y ∷ z ∷ text), get_or-drop 3 (a ∷ b ∷ c ∷ bytes));
}

-- the bytes that a text is packed into are its packed form
packed-is : (text bytes : List ℕ) → IsPacked text bytes → bytes ≡ packed text
packed-is [] [] p = refl
packed-is (w ∷ x ∷ y ∷ z ∷ text) (a ∷ b ∷ c ∷ bytes) p =
    let first = group_is w x y z a b c (p.bytes_fit 0 0 (omega arith)) (p.bytes_fit 1 0 (omega arith)) (p.bytes_fit 2 0 (omega arith))
    (p.groups 0 (omega arith)) in grind (arith, common_steps, packed-is text bytes (rest_packed w x y z a b c text bytes p))
packed-is _ _ p = absurd (omega (arith, p.lengths))

pub returns : goal.returns
returns g c = grind (arith, common_steps, packed-is)
