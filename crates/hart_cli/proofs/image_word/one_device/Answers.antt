use Rattle.std.proofs.Common.{◌⊎◌, ◌≡◌, ℕ, ◌<◌, true, List, length, slice_index, Some, None, inl, inr, arith, refl, false, ◌%◌}
use Rattle.std.proofs.lemmas.Grind.{common_steps}
use Rattle.std.proofs.lemmas.List.{get_or-take, length-take}
use Rattle.std.proofs.lemmas.List.Elements.{All-get_or}
use Rattle.hex.specs.Hex.{is_hex_digit}
use Rattle.hex.proofs.HexLemmas.{decode_of-ok, decode_of-same}
use Rattle.hart_device.proofs.lemmas.Laws.{images_have_no_fault}
use Rattle.hart_cli.specs.ImageWord.{IsBadHexWord, IsImageWord}
use Rattle.hart_cli.proofs.image_word.one_device.Goals as goal

-- a word has bad hex at its end if its length is odd, and otherwise at its first byte that is no digit
bad_parts : (word : List ℕ) (place : ℕ) → IsBadHexWord word place → ((length word % 2 ≡ 1) × (place ≡ length word))
    ⊎ ((length word % 2 ≡ 0) × (place < length word) × (is_hex_digit (slice_index word place) ≡ false)
    × ((k : ℕ) → k < place → is_hex_digit (slice_index word k) ≡ true))
bad_parts word _ (IsBadHexWord.odd is) = inl (is, refl)
bad_parts word place (IsBadHexWord.no_digit _ even below none digits) =
    inr (even, below, none, λ k before. grind (arith, digits k 0, get_or-take, length-take))

-- a word has bad hex at one place only
IsBadHexWord-one : (word : List ℕ) (place other : ℕ) → IsBadHexWord word place → IsBadHexWord word other → place ≡ other
IsBadHexWord-one word place other p q = grind (arith, bad_parts word place p, bad_parts word other q)

-- a word with bad hex is the word of no image
bad_is_no_word : (word : List ℕ) (place : ℕ) (bytes : List ℕ) → IsBadHexWord word place → IsImageWord word bytes → ⊥
bad_is_no_word word place bytes bad writes = grind (arith, All-get_or, decode_of-ok word bytes writes)

pub returns-clause-one : goal.returns-clause-one
returns-clause-one c None device other p q = cc
returns-clause-one c (Some word) device other p q =
    c.images_have_one_state.ensures.one_state device other q.2 (rw (decode_of-same word p.2 q.2 p.3 q.3) at p.4) q.4 (cc) (cc)

pub returns-clause-one_fault : goal.returns-clause-one_fault
returns-clause-one_fault c = grind (arith, common_steps, IsBadHexWord-one, bad_is_no_word, decode_of-same)

pub returns-clause-no_fault : goal.returns-clause-no_fault
returns-clause-no_fault c image device fault p q = grind (arith, bad_is_no_word, decode_of-same, images_have_no_fault device)
