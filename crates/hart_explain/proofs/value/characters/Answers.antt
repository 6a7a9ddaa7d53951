use Rattle.std.proofs.Common.{◌≡◌, ◌<◌, ◌%◌, ℕ, suc, List, [], ◌∷◌, refl, arith}
use Rattle.std.proofs.lemmas.Bool.Decides.{nat_tests}
use Rattle.std.proofs.lemmas.Grind.{common_steps}
use Rattle.std.proofs.lemmas.List.{get_or-drop, take_all}
use Rattle.hart_values.specs.packed_text.Packing.{IsCharacter, IsPacked, IsPackedGroup}
use Rattle.hart_explain.specs.Values.{character, characters_of, unpacked}
use Rattle.hart_explain.proofs.value.characters.Goals as goal

-- a character is determined by its lowest six bits
character_of : (code : ℕ) → IsCharacter code → character (code % 64) ≡ code
character_of code is = grind (arith, nat_tests)

-- a packed group has the characters that were packed into it
group_is : (w x y z a b c : ℕ) → IsCharacter w → IsCharacter x → IsCharacter y → IsCharacter z → a < 256 → b < 256 → c < 256
    → IsPackedGroup w x y z a b c → characters_of a b c ≡ w ∷ x ∷ y ∷ z ∷ []
group_is w x y z a b c p q r s t u v packed = grind (arith, common_steps, character_of)

-- without its first group, a packed text is still packed
rest_packed : (w x y z a b c : ℕ) (text bytes : List ℕ) → IsPacked (w ∷ x ∷ y ∷ z ∷ text) (a ∷ b ∷ c ∷ bytes) → IsPacked text bytes
rest_packed w x y z a b c text bytes p = record {
  lengths = omega (arith, p.lengths);
  characters = λ i d below. p.characters (suc (suc (suc (suc i)))) d (omega arith);
  bytes_fit = λ i d below. p.bytes_fit (suc (suc (suc i))) d (omega arith);
  groups = λ place below.
      let at_next = p.groups (suc place) (omega arith) in
      grind (arith, get_or-drop 4 (w ∷ x ∷ y ∷ z ∷ text), get_or-drop 3 (a ∷ b ∷ c ∷ bytes));
}

-- packed bytes unpack to the text
unpacked-is : (text bytes : List ℕ) → IsPacked text bytes → unpacked bytes ≡ text
unpacked-is [] [] p = refl
unpacked-is (w ∷ x ∷ y ∷ z ∷ text) (a ∷ b ∷ c ∷ bytes) p =
    let first = group_is w x y z a b c (p.characters 0 0 (omega arith)) (p.characters 1 0 (omega arith)) (p.characters 2 0 (omega arith))
    (p.characters 3 0 (omega arith)) (p.bytes_fit 0 0 (omega arith)) (p.bytes_fit 1 0 (omega arith)) (p.bytes_fit 2 0 (omega arith))
    (p.groups 0 (omega arith)) in grind (arith, common_steps, rest_packed, unpacked-is text bytes (rest_packed w x y z a b c text bytes p))
unpacked-is _ _ p = absurd (omega (arith, p.lengths))

pub returns : goal.returns
returns g c = grind (arith, common_steps, take_all, unpacked-is)
