use Rattle.std.proofs.Common.{◌≡◌, ◌≢◌, ℕ, ◌+◌, ◌*◌, ◌<◌, ◌≤◌, List, [], ◌∷◌, ◌++◌, length, drop, refl, arith}
use Rattle.std.proofs.lemmas.Grind.{common_steps}
use Rattle.std.specs.Int.{bit_at}
use Rattle.hart_frame.specs.heard.Character.{AreFaultBits}
use Rattle.hart_text.specs.Item.{AreDigits, byte_of, Faulty, hex_value}
use Rattle.hart_text.specs.Items.{BeginsWith, Item, MayBegin, meaning, NoPieceBegins, Piece, spelling}
use Rattle.hart_text.proofs.items.may_begin.Goals as goal

-- what completes the beginning of an item: the rest of `00!02` and a space
abbrev filling : List ℕ → List ℕ
filling text = drop (length text) (48 ∷ 48 ∷ 33 ∷ 48 ∷ 50 ∷ 32 ∷ [])

-- 16 times a number up to 7, plus 2, is a value of fault bits
fault_bits : (high : ℕ) → high < 8 → AreFaultBits (16 * high + 2)
fault_bits high small = record {
  byte = omega arith;
  only = λ bit below set.
      let differs : (other : ℕ) → bit_at (16 * high + 2) other ≡ 0 → bit ≢ other = grind (arith, common_steps) in
      grind (arith, differs 0 (omega arith), differs 2 (omega arith), differs 3 (omega arith), differs 7 (omega arith));
}

-- if a text with added bytes begins with a piece, and the text alone has all bytes of the separator, or of the item and one more, it begins
-- with this piece too
stands : (text more tail : List ℕ) (p : Piece) → BeginsWith (text ++ more) p tail → length (spelling p) + length (meaning p) ≤ length text
    → BeginsWith text p (drop (length (spelling p)) text)
stands text more tail p h within = grind (arith, common_steps)

-- a text of two digits, `!`, the two digits of fault bits other than 0, and a space begins with an item
begins_faulty : (text : List ℕ) (x y v w : ℕ) → AreDigits x y → AreDigits v w → byte_of v w ≢ 0 → AreFaultBits (byte_of v w)
    → text ≡ x ∷ y ∷ 33 ∷ v ∷ w ∷ 32 ∷ [] → BeginsWith text (Item (Faulty x y v w)) (32 ∷ [])
begins_faulty text x y v w d f z a e = grind (arith, common_steps)

-- a text of two digits, `!02` and a space begins with an item
begins_filled : (text : List ℕ) (x y : ℕ) → AreDigits x y → text ≡ x ∷ y ∷ 33 ∷ 48 ∷ 50 ∷ 32 ∷ []
    → BeginsWith text (Item (Faulty x y 48 50)) (32 ∷ [])
begins_filled text x y d e = begins_faulty text x y 48 50 d (refl, refl) (omega arith) (fault_bits 0 (omega arith)) e

-- if any bytes can complete a piece at the start of a text, `filling` can
filled : (text more tail : List ℕ) (p : Piece) → NoPieceBegins text → BeginsWith (text ++ more) p tail
    → NoPieceBegins (text ++ filling text) → ⊥
filled [] more tail p n h m = m _ _ (begins_filled _ 48 48 (refl, refl) refl)
filled (a ∷ []) more tail (Item i) n h m = m _ _ (begins_filled _ a 48 (grind arith, refl) refl)
filled (a ∷ b ∷ []) more tail (Item i) n h m = m _ _ (begins_filled _ a b (grind arith) refl)
filled (a ∷ b ∷ c ∷ []) more tail (Item (Faulty x y v w)) n h m = m _ _ (begins_filled _ x y h.valid.0 (cc h.spelled))
filled (a ∷ b ∷ c ∷ d ∷ []) more tail (Item (Faulty x y v w)) n h m =
    let small : hex_value v < 8 = grind (arith, h.valid.3.byte, h.valid.3.only 7) in
    m _ _ (begins_faulty _ x y v 50 h.valid.0 (h.valid.1.0, refl) (omega arith) (fault_bits (hex_value v) small) (cc h.spelled))
filled (a ∷ b ∷ c ∷ d ∷ f ∷ []) more tail (Item (Faulty x y v w)) n h m =
    m _ _ (begins_faulty _ x y v w h.valid.0 h.valid.1 h.valid.2 h.valid.3 (cc h.spelled))
filled text more tail p n h m = n _ _ (stands text more tail p h (grind arith))

pub returns-then-text-gt6-clause-may : goal.returns-then-text-gt6-clause-may
returns-then-text-gt6-clause-may c =
    grind (arith, λ (may : MayBegin c.args.text.now). stands c.args.text.now may.more may.tail may.piece may.begins)

pub returns-clause-may : goal.returns-clause-may
returns-clause-may c = grind (arith, filled)
