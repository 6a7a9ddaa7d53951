-- Lines write at most one list of events, and lines that write events include no bad line.
use Rattle.hart_line.proofs.Common.{◌≡◌, ◌<◌, ◌⊎◌, ℕ, List, [], ◌∷◌, Some, Err, ap, arith, codes, sym, refl, take}
use Rattle.hart_line.proofs.Common.{pred, common_steps, AllZip, slice_get, Heard, Chars, Clean, Lost, LineEvent, Noise, Turn, Character}
use Rattle.hart_line.proofs.Common.{RowFault, AreItems, IsItemsWord, AreEvents, HasFirstBadLine, IsBadLine, IsLegWord, IsScript, ReadsWords}
use Rattle.hart_line.proofs.Common.{Says, lines_in_words, HasNoValue, IsNeededByItems, IsNeededByLeg, IsNeededByWords}
use Rattle.hart_line.specs.declared.script.rows.RowFault.TheVariants.{Bad, Memory}
use Rattle.hart_line.proofs.lemmas.script.Items.{items_begin_with_digit, words_have_one_value-items}

-- AT MOST ONE LIST OF EVENTS
leg_items : (word : List ℕ) (heard : Heard) (chars : List Character) → AreItems word chars → IsLegWord word heard → heard ≡ Chars chars
leg_items word (Chars xs) chars are is = ap Chars (words_have_one_value-items word xs chars is.1 are)
leg_items word Clean chars are is = let digit = items_begin_with_digit 111 (codes "k") chars (rw is at are) in cc
leg_items word Lost chars are is = let digit = items_begin_with_digit 108 (codes "ost") chars (rw is at are) in cc

leg_one : (word : List ℕ) (a b : Heard) → IsLegWord word a → IsLegWord word b → a ≡ b
leg_one word (Chars xs) y a b = sym (leg_items word y xs a.1 b)
leg_one word x (Chars ys) a b = leg_items word x ys b.1 a
leg_one word x y a b = grind arith

says_one : (words : List (List ℕ)) (x y : LineEvent) → Says words x → Says words y → x ≡ y
says_one words (Turn who up down) (Turn other first second) a b = grind (arith, leg_one)
says_one words (Noise xs) (Noise ys) a b =
    let same : b.0 ≡ a.0 = grind arith in ap Noise (words_have_one_value-items a.0 xs ys a.2.1 (rw same at b.2.1))
says_one words x y a b = grind arith

say_one : (lines : List (List (List ℕ))) (xs ys : List LineEvent) → AllZip Says lines xs → AllZip Says lines ys → xs ≡ ys
say_one [] [] [] a b = refl
say_one (words ∷ lines) (x ∷ xs) (y ∷ ys) a b =
    let first = says_one words x y a.0 b.0 in let others = say_one lines xs ys a.1 b.1 in cc
say_one lines xs ys a b = absurd (grind arith)

pub texts_have_one_script-one_script : (text : List ℕ) (xs ys : List LineEvent) → IsScript text xs → IsScript text ys → xs ≡ ys
texts_have_one_script-one_script text xs ys a b = say_one _ xs ys a b

-- NO BAD LINE
none_bad : (lines : List (List (List ℕ))) (n : ℕ) (words : List (List ℕ)) (events : List LineEvent) → AreEvents lines events
    → slice_get lines n ≡ Some words → IsBadLine words → ⊥
none_bad [] n words events are is bad = cc
none_bad (line ∷ lines) n words [] are is bad = grind (arith, none_bad lines (pred n) words [])
none_bad (line ∷ lines) n words (event ∷ events) are is bad =
    grind (arith, none_bad lines (pred n) words (event ∷ events), none_bad lines (pred n) words events)

pub texts_have_one_script-no_bad_line : (text : List ℕ) (events : List LineEvent) (number : ℕ) → IsScript text events
    → HasFirstBadLine text number → ⊥
texts_have_one_script-no_bad_line text events number are bad = none_bad (lines_in_words text) bad.before bad.words events are bad.is bad.bad

-- A text has at most one first bad line: of two such lines, neither can come before the other.
slice_get-take : {A : Type 0} (xs : List A) (m n : ℕ) → m < n → slice_get (take n xs) m ≡ slice_get xs m
slice_get-take [] m n below = grind (arith, common_steps)
slice_get-take (x ∷ xs) m n below = grind (arith, common_steps, slice_get-take xs (pred m) (pred n))

not_before : (text : List ℕ) (number other : ℕ) (a : HasFirstBadLine text number) (b : HasFirstBadLine text other) → a.before < b.before → ⊥
not_before text number other a b below = none_bad (take b.before (lines_in_words text)) a.before a.words b.events b.good
    (grind (arith, slice_get-take, a.is)) a.bad

pub texts_have_one_script-one_bad_line : (text : List ℕ) (number other : ℕ) → HasFirstBadLine text number → HasFirstBadLine text other
    → number ≡ other
texts_have_one_script-one_bad_line text number other a b =
    let first = not_before text number other a b in let second = not_before text other number b a in
    grind (arith, a.counted, b.counted)

-- WORDS THAT SAY NOTHING
-- No row begins with this word.
abbrev pub IsOther : List ℕ → Type 0
IsOther first = (first ≡ codes "submit" → ⊥) × (first ≡ codes "turn" → ⊥) × (first ≡ codes "protect" → ⊥)
    × (first ≡ codes "noise" → ⊥) × (first ≡ codes "restart" → ⊥)

-- So words that begin with such a word say no event.
pub says_none : (first : List ℕ) (words : List (List ℕ)) → IsOther first → HasNoValue (Says (first ∷ words))
says_none first words other event said = grind arith

-- A word that is not `ok`, not `lost` and not a word of items is not the word of a leg.
pub no_leg : (word : List ℕ) → (word ≡ codes "ok" → ⊥) × (word ≡ codes "lost" → ⊥) → HasNoValue (IsItemsWord word)
    → HasNoValue (IsLegWord word)
no_leg word other none Clean is = other.0 is
no_leg word other none Lost is = other.1 is
no_leg word other none (Chars chars) is = none chars is

-- A turn has two words for its legs. If one of these words is not the word of a leg, the words of the turn say no event.
pub no_turn : (who up down leg : List ℕ) → (leg ≡ up) ⊎ (leg ≡ down) → HasNoValue (IsLegWord leg)
    → HasNoValue (Says (codes "turn" ∷ who ∷ up ∷ down ∷ []))
no_turn who up down leg one none event said = grind arith

-- The words of noise say no event if the word after `noise` is not a word of items.
pub no_noise : (word : List ℕ) → HasNoValue (IsItemsWord word) → HasNoValue (Says (codes "noise" ∷ word ∷ []))
no_noise word none (Noise chars) said = let same : said.0 ≡ word = grind arith in none chars (rw same at said.2)
no_noise word none event said = grind arith

-- FAULTS OF WORDS
-- A fault of a word of items is a fault of the same word of a leg, if this is neither `ok` nor `lost`.
pub fault_of_leg : (word : List ℕ) (fault : RowFault) → (word ≡ codes "ok" → ⊥) × (word ≡ codes "lost" → ⊥)
    → ReadsWords (IsNeededByItems word) (IsItemsWord word) (Err fault) → ReadsWords (IsNeededByLeg word) (IsLegWord word) (Err fault)
fault_of_leg word Bad other none = no_leg word other none
fault_of_leg word (Memory room) other needed = (other.0, other.1, needed)

-- A fault of one of the two legs of a turn is a fault of the turn.
pub fault_of_turn : (words : List (List ℕ)) (who up down leg : List ℕ) (fault : RowFault) → words ≡ who ∷ up ∷ down ∷ []
    → (leg ≡ up) ⊎ (leg ≡ down) → ReadsWords (IsNeededByLeg leg) (IsLegWord leg) (Err fault)
    → ReadsWords (IsNeededByWords (codes "turn" ∷ words)) (Says (codes "turn" ∷ words)) (Err fault)
fault_of_turn words who up down leg Bad are one none = rw are (no_turn who up down leg one none)
fault_of_turn words who up down leg (Memory room) are one needed = grind arith

-- A fault of the word after `noise` is a fault of the noise.
pub fault_of_noise : (words : List (List ℕ)) (word : List ℕ) (fault : RowFault) → words ≡ word ∷ []
    → ReadsWords (IsNeededByItems word) (IsItemsWord word) (Err fault)
    → ReadsWords (IsNeededByWords (codes "noise" ∷ words)) (Says (codes "noise" ∷ words)) (Err fault)
fault_of_noise words word Bad are none = rw are (no_noise word none)
fault_of_noise words word (Memory room) are needed = rw are (refl, needed)
