-- Whether bytes that end too early for a body may become one that stands alone.
use Rattle.hart_frame.proofs.Common.{◌≡◌, ◌≢◌, ℕ, zero, suc, ◌+◌, ◌-◌, ◌<◌, ◌≤◌, true, false, List, [], ◌∷◌, ◌++◌, length, take, get_or}
use Rattle.hart_frame.proofs.Common.{fold, bit_xor, None, ◌∙◌, ap, sym, arith, append_assoc, length-append, replicate, All, take-append-add}
use Rattle.hart_frame.proofs.Common.{nat_tests, append-nil, get_or_at, length-replicate, map-append, take_all, take_at, All-append}
use Rattle.hart_frame.proofs.Common.{All-take, Character, faultless, faultless_bytes, HasBodyAt, bytes_from, body_miss, check_miss}
use Rattle.hart_frame.proofs.Common.{has_two_preambles, two_begin_in_body, MayStandAlone, stands_alone, IsBody, FrameParts, body_length}
use Rattle.hart_frame.proofs.Common.{HasCheckByte, IsTruncated, All-replicate}
use Rattle.std.proofs.lemmas.List.{take-replicate}
use Rattle.hart_frame.specs.private.Sighting.{LacksOnePreamble}
use Rattle.hart_frame.proofs.lemmas.heard.FramesFound.{begins_at}
use Rattle.hart_frame.proofs.lemmas.heard.Front.{faultless_bytes-append}
use Rattle.hart_frame.proofs.lemmas.heard.Missed.{none_of}
use Rattle.hart_frame.proofs.lemmas.scan.Alone.{two_last, two_more, two_none, two_other, two_push, two_step, whole_has, whole_past}
use Rattle.hart_frame.proofs.lemmas.scan.BodyAt.{miss_more}
use Rattle.std.proofs.lemmas.Bool.{false_from_ne_true}
use Rattle.hart_frame.proofs.lemmas.wire.Parity.{IsCheckByte-fold, fits-is, fits_at}
use Rattle.hart_frame.proofs.lemmas.wire.Refusal.{good_prefix, length_more, says}
use Rattle.hart_frame.proofs.lemmas.wire.Truncated.{completed, filled}

-- A body that stands alone reaches its check byte, which fits, and no two FF in a row begin in it.
pub record SaysAlone (xs ys : List ℕ) : Type 0 where
  pub has : HasCheckByte (xs ++ ys)
  pub check : check_miss (xs ++ ys) 0 ≡ None
  pub clear : has_two_preambles (take (body_length (xs ++ ys) + 1) (xs ++ ys)) ≡ false

pub says_alone : (xs : List ℕ) (more : List Character) → stands_alone (faultless xs ++ more) 0 ≡ true
    → SaysAlone xs (faultless_bytes more)
says_alone xs more alone =
    let whole : body_miss 0 (faultless xs ++ more) ≡ None = grind arith in
    let both = whole_has (xs ++ faultless_bytes more) _ _ 0 (sym (miss_more xs more 0) ∙ whole) in
    let clear : two_begin_in_body (faultless xs ++ more) 0 ≡ false = grind (arith, nat_tests) in
    record { has = both.0; check = both.1; clear = rw (faultless_bytes-append xs more) at clear }

-- Bytes that end too early never become a body that stands alone if they hold two FF in a row, or lack only a second FF.
pub never_two : (xs : List ℕ) (more : List Character) → IsTruncated xs → has_two_preambles xs ≡ true
    → stands_alone (faultless xs ++ more) 0 ≡ false
never_two xs more truncated two =
    false_from_ne_true _ (λ alone.
    let is = says_alone xs more alone in
    let k : ℕ = body_length (xs ++ faultless_bytes more) + 1 - length xs in
    grind (arith, whole_past xs (faultless_bytes more), take-append-add xs (faultless_bytes more) k, two_more xs))

lacks_next : (xs ys : List ℕ) → All (λ byte. byte < 256) xs → LacksOnePreamble xs → HasCheckByte (xs ++ ys)
    → check_miss (xs ++ ys) 0 ≡ None → has_two_preambles (take (body_length (xs ++ ys) + 1) (xs ++ ys)) ≡ true
lacks_next xs [] fit lacks has check =
    let same = length_more xs [] lacks.good.0.1 in absurd (omega (arith, has.1, same, lacks.last, length-append xs []))
lacks_next xs (y ∷ ys) fit lacks has check =
    let same = length_more xs (y ∷ ys) lacks.good.0.1 in
    let fits : 255 ≡ fold bit_xor 0 xs = fits-is xs 255 fit lacks.check in
    let is : y ≡ 255 = grind (arith, nat_tests, take_at xs (y ∷ ys) (length xs), get_or_at xs y ys 0 (length xs)) in
    let parts : take (body_length (xs ++ y ∷ ys) + 1) (xs ++ y ∷ ys) ≡ xs ++ y ∷ take 1 ys =
    grind (arith, take-append-add xs (y ∷ ys) 2) in
    rw (parts, is) (two_last xs (take 1 ys) lacks.before)

pub never_lacks : (xs : List ℕ) (more : List Character) → All (λ byte. byte < 256) xs → LacksOnePreamble xs
    → stands_alone (faultless xs ++ more) 0 ≡ false
never_lacks xs more fit lacks =
    false_from_ne_true _ (λ alone. grind (arith, says_alone xs more alone, lacks_next xs (faultless_bytes more) fit lacks))

-- A row of bytes with the value 2, followed by a check byte, has no two FF in a row.
twos : (k check : ℕ) → has_two_preambles (replicate k 2 ++ check ∷ []) ≡ false
twos zero check = grind (arith, nat_tests, two_step, two_none)
twos (suc zero) check = grind (arith, nat_tests, two_step, two_none)
twos (suc (suc k)) check = grind (arith, nat_tests, two_step, twos (suc k) check)

clear_rest : (xs : List ℕ) (k check : ℕ) → has_two_preambles xs ≡ false
    → (k ≡ 0 → get_or xs (length xs - 1) 0 ≡ 255 → check ≢ 255) → has_two_preambles (xs ++ (replicate k 2 ++ check ∷ [])) ≡ false
clear_rest xs k check clear differs = grind (arith, two_push, two_other, twos)

-- A body stands alone if it holds no two FF in a row and nothing follows it.
body_alone : (chars : List Character) (body : List ℕ) (f : FrameParts) → IsBody f body → chars ≡ faultless body
    → has_two_preambles body ≡ false → stands_alone chars 0 ≡ true
body_alone chars body f is all clear =
    let has : HasBodyAt chars 0 = record { frame = f; body = body; rest = []; is_body = is; parts = rw append-nil all } in
    let long = says (bytes_from chars 0) f (length body) (begins_at chars 0 has) in
    grind (arith, nat_tests, append-nil, faultless_bytes-append body [], take_all, none_of chars 0 has)

-- All other bytes that end too early may or may not become a body that stands alone.
pub may : (xs : List ℕ) (m : ℕ) → All (λ byte. byte < 256) xs → IsTruncated xs → has_two_preambles xs ≡ false → (LacksOnePreamble xs → ⊥)
    → 300 ≤ m → MayStandAlone xs 0
may xs m fit truncated clear not enough =
    let whole : List ℕ = xs ++ replicate m 2 in
    let (has, past) = filled xs m fit truncated enough in
    let n : ℕ = body_length whole - 1 in
    let fits = All-append (λ byte. byte < 256) xs (replicate m 2) fit (All-replicate (λ byte. byte < 256) m 2 (omega arith)) in
    let p : List ℕ = take n whole in
    let good = good_prefix whole n has (omega arith) (omega (arith, has.1)) in
    let (frame, is) = completed whole (All-take (λ byte. byte < 256) (body_length whole) whole fits) has in
    let check : ℕ = fold bit_xor 0 p in
    let k : ℕ = n - length xs in
    let split : n ≡ length xs + k = omega (arith, past) in
    let parts : p ≡ xs ++ replicate k 2 = grind (arith, take-append-add, take-replicate, length-append, length-replicate) in
    let rest : List ℕ = replicate k 2 ++ check ∷ [] in
    let body : p ++ check ∷ [] ≡ xs ++ rest = ap (λ (ys : List ℕ). ys ++ check ∷ []) parts ∙ append_assoc xs (replicate k 2) (check ∷ []) in
    let differs : k ≡ 0 → get_or xs (length xs - 1) 0 ≡ 255 → check ≢ 255 = λ none last same.
    let own : p ≡ xs = grind (arith, append-nil) in
    not (record {
      good = rw own at good.0;
      last = omega (arith, rw own at good.1, split, none, past);
      before = last;
      check = IsCheckByte-fold xs 255 (fits_at xs fit) (sym same ∙ ap (λ (ys : List ℕ). fold bit_xor 0 ys) own);
    }) in
    record {
      one = faultless rest;
      alone = body_alone (faultless xs ++ faultless rest) (xs ++ rest) frame (rw body at is) (sym (map-append _ xs rest))
          (clear_rest xs k check clear differs);
      other = [];
      not_alone = false_from_ne_true _ (λ alone. grind (arith, says_alone xs [] alone, whole_past xs [], length-append));
    }
