use Rattle.hart_frame.proofs.Common.{◌≡◌, ℕ, ◌%◌, ◌<◌, ◌==◌, ◌||◌, bit_and, not, refl, arith, nat_tests}
use Rattle.std.proofs.lemmas.Bool.{agree_below_at}
use Rattle.hart_frame.specs.wire.Delimiter.{is_delimiter}
use Rattle.hart_frame.proofs.wire.delimiter.read_delimiter.Goals as goal

-- The bits that are the same in all delimiters tell whether a byte is a delimiter.
by_mask : (byte : ℕ) → byte < 256 → (bit_and byte 0x1B == 2) ≡ is_delimiter byte
by_mask byte fits = agree_below_at (λ (b : ℕ). bit_and b 0x1B == 2) is_delimiter 256 byte refl fits

-- A byte with those bits has the kind 2 exactly if its bits 2 and 1 are those of the number 2.
stx_by_mask : (byte : ℕ) → byte < 256 → (not (is_delimiter byte) || (bit_and byte 6 == 2)) ≡ (not (is_delimiter byte) || (byte % 8 == 2))
stx_by_mask byte fits =
    agree_below_at (λ (b : ℕ). not (is_delimiter b) || (bit_and b 6 == 2)) (λ (b : ℕ). not (is_delimiter b) || (b % 8 == 2)) 256 byte
    refl fits

pub returns-then-byte-ne-STX-clause-known : goal.returns-then-byte-ne-STX-clause-known
returns-then-byte-ne-STX-clause-known c = grind (arith, nat_tests, by_mask c.args.byte)

pub returns-clause-known : goal.returns-clause-known
returns-clause-known c = grind (arith, nat_tests, by_mask c.args.byte)

pub returns-clause-kind : goal.returns-clause-kind
returns-clause-kind c = grind (arith, nat_tests, by_mask c.args.byte, stx_by_mask c.args.byte)
