use Rattle.std.proofs.Common.{◌+◌, below_more, subst, sym, ◌≡◌, ◌<◌, ◌≤◌, ℕ, Bool, true, false, List, Err, Ok, arith, get_or, length, take}
use Rattle.std.proofs.lemmas.Bool.Decides.{nat_tests}
use Rattle.std.proofs.lemmas.Grind.{common_steps, elements, take_at_read}
use Rattle.std.proofs.lemmas.Iterator.{YieldsList-from_chars}
use Rattle.std.proofs.lemmas.Iterator.Consumers.{YieldsList-turn, YieldsList-end}
use Rattle.std.proofs.lemmas.List.{get_or-take, length_push, take_all}
use Rattle.std.proofs.lemmas.List.Sums.{prefix_len_is}
use Rattle.std.specs.List.{prefix_len}
use Rattle.std.specs.Str.{chars}
use Rattle.hart_request.specs.declared.fault.FieldFault.TheVariants.{BadCharacter, TooLong}
use Rattle.hart_request.specs.Values.{can_have, padded, text_value}
use Rattle.hart_request.proofs.values.text_value.Goals as goal

-- the good characters at the front are those before the first bad character, or all that fit
passing : (passes : ℕ → Bool) (most : ℕ) (text : List ℕ) (place : ℕ) → place ≤ most → place ≤ length text
    → ((k : ℕ) → k < place → passes (get_or text k 0) ≡ true)
    → (place < most → place < length text → passes (get_or text place 0) ≡ false) → prefix_len passes (take most text) ≡ place
passing passes most text place room within good bad =
    prefix_len_is passes (take most text) place 0 (grind (arith, common_steps))
    (λ k below. grind (arith, get_or-take most text k 0, good k))
    (λ below. grind (arith, common_steps, get_or-take most text place 0, bad))

-- a text with a bad character is refused, with the place of that character
bad_is : (passes : ℕ → Bool) (most : ℕ) (text : List ℕ) (place : ℕ) → place < most → place < length text
    → ((k : ℕ) → k < place → passes (get_or text k 0) ≡ true) → passes (get_or text place 0) ≡ false
    → Err (BadCharacter place) ≡ text_value passes most text
bad_is passes most text place room within good bad =
    let is = passing passes most text place (omega arith) (omega arith) good (λ _ _. bad) in
    grind (arith, common_steps, nat_tests)

-- a text that is too long is refused, with the number of characters that the field has room for
long_is : (passes : ℕ → Bool) (most : ℕ) (text : List ℕ) → most < length text
    → ((k : ℕ) → k < most → passes (get_or text k 0) ≡ true) → Err (TooLong most) ≡ text_value passes most text
long_is passes most text long good =
    let is = passing passes most text most (omega arith) (omega arith) good (λ less _. absurd (omega arith)) in
    grind (arith, common_steps, nat_tests)

-- a text that fits is padded
fits_is : (passes : ℕ → Bool) (most : ℕ) (text : List ℕ) → length text ≤ most
    → ((k : ℕ) → k < length text → passes (get_or text k 0) ≡ true) → Ok (padded most text) ≡ text_value passes most text
fits_is passes most text short good =
    let is = passing passes most text (length text) (omega arith) (omega arith) good (λ _ less. absurd (omega arith)) in
    grind (arith, common_steps, nat_tests)

pub returns-then-len-most : goal.returns-then-len-most
returns-then-len-most c =
    let t = YieldsList-turn (YieldsList-from_chars c.args.word.now c.utf8.word cc)
    c.loop-character.yielded _ c.loop-character.yielded_by _ _
    c.in-Some.character c.in-Some.is c.next.ensures.steps in
    long_is (can_have c.args.kind) c.args.most (chars c.args.word.now) (omega (arith, t.0, c.loop-character.invariant.count))
    (λ k below. c.loop-character.invariant.good k (omega arith))

pub returns-then-not-can_have : goal.returns-then-not-can_have
returns-then-not-can_have c =
    let t = YieldsList-turn (YieldsList-from_chars c.args.word.now c.utf8.word cc)
    c.loop-character.yielded _ c.loop-character.yielded_by _ _
    c.in-Some.character c.in-Some.is c.next.ensures.steps in
    let at : length c.loop-character.text < length (chars c.args.word.now) = omega (arith, t.0, c.loop-character.invariant.count) in
    let bad : can_have c.args.kind (get_or (chars c.args.word.now) (length c.loop-character.text) 0) ≡ false = grind (arith, elements, t) in
    let is = bad_is (can_have c.args.kind) c.args.most (chars c.args.word.now) (length c.loop-character.text)
    (grind (arith, common_steps)) at c.loop-character.invariant.good bad in
    grind (arith, common_steps, is)

pub loop-character-preserved : goal.loop-character-preserved
loop-character-preserved c =
    let t = YieldsList-turn (YieldsList-from_chars c.args.word.now c.utf8.word cc)
    c.loop-character.yielded _ c.loop-character.yielded_by _ _
    c.in-Some.character c.in-Some.is c.next.ensures.steps in
    let at : length c.loop-character.text < length (chars c.args.word.now) = omega (arith, t.0, c.loop-character.invariant.count) in
    let is : c.in-Some.character ≡ get_or (chars c.args.word.now) (length c.loop-character.text) 0 = grind (arith, elements, t) in
    let more : length c.push.new.self ≡ length c.loop-character.text + 1 = grind (arith, common_steps) in
    record {
      few = grind (arith, common_steps);
      count = omega (arith, more, length_push c.loop-character.yielded c.in-Some.character, c.loop-character.invariant.count);
      front = grind (arith, common_steps, take_at_read (chars c.args.word.now) (length c.loop-character.text) 0 at, is, more);
      good = subst (λ (n : ℕ). (place : ℕ) → place < n → can_have c.args.kind (get_or (chars c.args.word.now) place 0) ≡ true) (sym more)
          (below_more _ _ c.loop-character.invariant.good (grind (arith, common_steps, is)));
    }

pub returns : goal.returns
returns c =
    let t = YieldsList-end (YieldsList-from_chars c.args.word.now c.utf8.word cc)
    c.loop-character.yielded _ c.loop-character.yielded_by _ _ c.in-None.is c.next.ensures.steps in
    let size : length c.loop-character.text ≡ length (chars c.args.word.now) = omega (arith, t.1, c.loop-character.invariant.count) in
    let whole : c.loop-character.text ≡ chars c.args.word.now = grind (arith, common_steps, take_all) in
    let fits = fits_is (can_have c.args.kind) c.args.most (chars c.args.word.now) (omega (arith, size, c.loop-character.invariant.few))
    (λ k below. c.loop-character.invariant.good k (omega arith)) in
    grind (arith, common_steps, fits, whole)
