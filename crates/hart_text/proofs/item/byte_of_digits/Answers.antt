use Rattle.std.proofs.Common.{◌≡◌, ℕ, ◌+◌, ◌*◌, [], ◌∷◌, Option, Some, None, Ok, is_some, unwrap_or, arith, ◌&&◌, if◌then◌else◌}
use Rattle.std.proofs.Math.Nat.{mul_comm}
use Rattle.std.proofs.lemmas.Grind.{common_steps}
use Rattle.hart_text.specs.Item.{byte_of}
use Rattle.std.specs.Result.{result_ok}
use Rattle.hex.specs.Hex.{decode_pairs, digit_or_error, hex_digit_value, is_hex_digit, ◌>>=◌}
use Rattle.hart_text.proofs.item.byte_of_digits.Goals as goal

-- the byte that `hex` reads from two bytes, by their values as digits
pair_read : (high low : ℕ) (a b : Option ℕ)
    → result_ok ((digit_or_error high 0 a >>= (λ h. digit_or_error low 1 b >>= (λ l. Ok (h * 16 + l)))) >>= (λ byte. Ok (byte ∷ [])))
    ≡ (if is_some a && is_some b then Some ((16 * unwrap_or a 0 + unwrap_or b 0) ∷ []) else None)
pair_read high low a b = grind (arith, mul_comm)

-- `hex` reads two bytes if both are digits
decode_pairs-two : (high low : ℕ) → result_ok (decode_pairs 0 (high ∷ low ∷ []))
    ≡ (if is_hex_digit high && is_hex_digit low then Some (byte_of high low ∷ []) else None)
unfolding decode_pairs
decode_pairs-two high low = pair_read high low (hex_digit_value high) (hex_digit_value low)

pub returns-in_err-byte : goal.returns-in_err-byte
returns-in_err-byte c = grind (arith, common_steps, decode_pairs-two)

pub returns : goal.returns
returns c = grind (arith, common_steps, decode_pairs-two)
