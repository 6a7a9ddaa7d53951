use Rattle.hart_line.proofs.Common.{◌≡◌, ℕ, List, [], ◌∷◌, Some, Result, Ok, ap, arith, common_steps, get_or, length, refl}
use Rattle.hex.specs.declared.error.FromHexError.{FromHexError}
use Rattle.hex.specs.Hex.{decode_pairs}
use Rattle.std.specs.Prelude.{option_map}
use Rattle.std.specs.Result.{result_ok}
use Rattle.hart_line.proofs.lemmas.script.Digits.{none_left, one_more}
use Rattle.hart_text.specs.Digits.{AreDigitsOf}
use Rattle.hart_line.specs.script.Words.{device_of, numbers_of}
use Rattle.hart_line.proofs.script.words.read_device_by.Goals as goal

-- ten digits write five bytes
five_bytes : (a b c d e f g h i j v w x y z : ℕ) → AreDigitsOf v a b → AreDigitsOf w c d → AreDigitsOf x e f → AreDigitsOf y g h
    → AreDigitsOf z i j → decode_pairs 0 (a ∷ b ∷ c ∷ d ∷ e ∷ f ∷ g ∷ h ∷ i ∷ j ∷ []) ≡ Ok (v ∷ w ∷ x ∷ y ∷ z ∷ [])
five_bytes a b c d e f g h i j v w x y z first second third fourth fifth =
    one_more 0 a b v _ _ first (one_more 2 c d w _ _ second (one_more 4 e f x _ _ third (one_more 6 g h y _ _ fourth
    (one_more 8 i j z _ _ fifth (none_left 10)))))

read_ten : (a b c d e f g h i j v w x y z : ℕ) (word : List ℕ) → word ≡ a ∷ b ∷ c ∷ d ∷ e ∷ f ∷ g ∷ h ∷ i ∷ j ∷ []
    → AreDigitsOf v a b → AreDigitsOf w c d → AreDigitsOf x e f → AreDigitsOf y g h → AreDigitsOf z i j
    → device_of word ≡ Some (numbers_of (v ∷ w ∷ x ∷ y ∷ z ∷ []))
read_ten a b c d e f g h i j v w x y z word is first second third fourth fifth =
    rw is (ap (λ (read : Result (List ℕ) FromHexError). option_map numbers_of (result_ok read))
    (five_bytes a b c d e f g h i j v w x y z first second third fourth fifth))

-- a list of ten elements
ten : (word : List ℕ) → length word ≡ 10 → word ≡ get_or word 0 0 ∷ get_or word 1 0 ∷ get_or word 2 0 ∷ get_or word 3 0 ∷ get_or word 4 0
    ∷ get_or word 5 0 ∷ get_or word 6 0 ∷ get_or word 7 0 ∷ get_or word 8 0 ∷ get_or word 9 0 ∷ []
ten (a ∷ b ∷ c ∷ d ∷ e ∷ f ∷ g ∷ h ∷ i ∷ j ∷ []) is = refl
ten word is = absurd (grind arith)

pub returns : goal.returns
returns c = rw c.device_in.ensures (read_ten _ _ _ _ _ _ _ _ _ _ _ _ _ _ _ c.args.word.now (ten c.args.word.now (grind arith))
    (grind (arith, common_steps)) (grind (arith, common_steps)) (grind (arith, common_steps)) (grind (arith, common_steps))
    (grind (arith, common_steps)))
