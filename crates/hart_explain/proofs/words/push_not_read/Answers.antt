use Rattle.std.proofs.Common.{◌≡◌, ◌==◌, ℕ, false, List, [], ◌∷◌, length, refl}
use Rattle.hart_explain.specs.Words.{bytes_line, hex_value, said_line}
use Rattle.hart_explain.proofs.lemmas.Extended.{extending}
use Rattle.hart_explain.proofs.words.push_not_read.Goals as goal

-- if there is at least one byte, the line of the bytes is written
some-line : (name bytes : List ℕ) → false ≡ (length bytes == 0) → bytes_line name bytes ≡ said_line name (hex_value bytes)
some-line name [] some = cc
some-line name (byte ∷ bytes) some = refl

pub returns : goal.returns
returns c =
    rw (
      c.push_byte.ensures,
      c.push_hex_value.ensures,
      c.push_text-2.ensures,
      c.push_number.ensures.number,
      c.from.ensures,
      c.push_text.ensures,
      some-line _ c.args.bytes.now c.if-is_empty.ensures,
    ) (simp extending)
