use Rattle.hart_frame.proofs.Common.{◌⊎◌, ◌≡◌, ◌<◌, ℕ, refl, bit_and, arith, sym, ap, ◌∙◌, false≢true, common_steps, bit_at}
use Rattle.std.proofs.lemmas.Nat.{and_le_l}
use Rattle.std.proofs.lemmas.Nat.Bits.{bit_at_and, bit_at-lt, bit_at-zero, same_from_bits_below}
use Rattle.hart_frame.specs.heard.Character.{IsFaultBit, AreFaultBits}
use Rattle.hart_frame.proofs.heard.character.Char.new.Goals as goal

-- Each of the bits 0 to 7 that is not set in the number 141 is a fault bit.
fault_bit : (bit : ℕ) → bit < 8 → bit_at 141 bit ≡ 0 → IsFaultBit bit
fault_bit bit below e =
    let cases : (bit ≡ 0) ⊎ (bit ≡ 1) ⊎ (bit ≡ 2) ⊎ (bit ≡ 3) ⊎ (bit ≡ 4) ⊎ (bit ≡ 5) ⊎ (bit ≡ 6) ⊎ (bit ≡ 7) = grind arith in
    grind arith

-- A byte in which none of the bits of 141 is set has only fault bits.
AreFaultBits-from : (faults : ℕ) → faults < 256 → bit_and faults 141 ≡ 0 → AreFaultBits faults
AreFaultBits-from faults small none = record {
  byte = small;
  only = λ bit below set.
      let joined = sym (bit_at_and faults 141 bit) ∙ ap (λ n. bit_at n bit) none ∙ bit_at-zero bit in
      fault_bit bit below (omega (arith, joined, set));
}

-- A byte of fault bits has none of the bits of 141 set.
none_other : (faults : ℕ) → AreFaultBits faults → bit_and faults 141 ≡ 0
none_other faults are =
    same_from_bits_below 8 (bit_and faults 141) 0 (omega (arith, and_le_l faults 141, are.byte)) (omega arith) (
    grind (arith, common_steps, bit_at_and, bit_at-lt, bit_at-zero))

pub returns-then-faults-ne0-clause-accepted : goal.returns-then-faults-ne0-clause-accepted
returns-then-faults-ne0-clause-accepted c = grind (arith, false≢true, none_other)

pub invariant_of-result : goal.invariant_of-result
invariant_of-result c = AreFaultBits-from c.args.faults (omega (arith, c.ranges.faults)) c.if-faults-ne0.false

pub returns-clause-accepted : goal.returns-clause-accepted
returns-clause-accepted c = (λ _. AreFaultBits-from c.args.faults (omega (arith, c.ranges.faults)) c.if-faults-ne0.false, λ _. refl)
