-- The item that begins a text.
use Rattle.std.proofs.Common.{subst, ◌∙◌, ◌≡◌, ◌≢◌, ℕ, ◌≤◌, List, ◌∷◌, get_or, length, refl, arith}
use Rattle.std.proofs.lemmas.Bool.{cases_eq}
use Rattle.std.proofs.lemmas.Grind.{common_steps, get_or-set_at}
use Rattle.std.proofs.lemmas.List.{get_or-set_other}
use Rattle.hart_text.specs.Item.{Faulty, BeginsAsItem, AreDigits, byte_of, Plain}
use Rattle.hart_frame.specs.heard.Character.{Character, AreFaultBits}

-- The case of a text that begins with an item without fault bits.
pub begins_as_plain : (text : List ℕ) (char : Character) (byte : ℕ) → 2 ≤ length text → AreDigits (get_or text 0 0) (get_or text 1 0)
    → byte ≡ byte_of (get_or text 0 0) (get_or text 1 0) → (get_or text 2 0 ≡ 33 → ⊥) → char ≡ record { byte = byte; faults = 0 }
    → BeginsAsItem text char 2
begins_as_plain (x ∷ y ∷ tail) char byte some d b n e = record {
  item = Plain x y;
  tail = tail;
  begins = record { valid = d; spelled = refl; ends = grind arith };
  long = refl;
  means = cc;
}
begins_as_plain text char byte some d b n e = absurd (omega arith)

-- The case of a text that begins with an item with fault bits.
pub begins_as_faulty : (text : List ℕ) (char : Character) (byte faults : ℕ) → 5 ≤ length text
    → AreDigits (get_or text 0 0) (get_or text 1 0) → byte ≡ byte_of (get_or text 0 0) (get_or text 1 0) → get_or text 2 0 ≡ 33
    → AreDigits (get_or text 3 0) (get_or text 4 0) → faults ≡ byte_of (get_or text 3 0) (get_or text 4 0) → faults ≢ 0
    → AreFaultBits faults → char ≡ record { byte = byte; faults = faults } → BeginsAsItem text char 5
begins_as_faulty (x ∷ y ∷ m ∷ v ∷ w ∷ text) char byte faults some d b n f g z a e = record {
  item = Faulty x y v w;
  tail = text;
  begins = record { valid = (d, f, λ k. z (g ∙ k), subst AreFaultBits g a); spelled = cc; ends = tt };
  long = refl;
  means = cc;
}
begins_as_faulty text char byte faults some d b n f g z a e = absurd (omega arith)

-- the rules for a table of the digits of items that is filled place by place
pub ruleset place_by_place = (common_steps, cases_eq, get_or-set_at, get_or-set_other)
