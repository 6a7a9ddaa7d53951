use Rattle.std.proofs.Common.{◌≡◌, ℕ, ◌<◌, ◌+◌, List, [], ◌∷◌, ◌++◌, length, take, get_or, refl, append_assoc, arith}
use Rattle.std.proofs.lemmas.Grind.{common_steps}
use Rattle.std.proofs.lemmas.List.{map_more}
use Rattle.std.specs.List.{join_with_byte}
use Rattle.hex.specs.Hex.{encode_upper}
use Rattle.hart_station.specs.Lines.{hex_items}
use Rattle.hart_station.proofs.lines.push_hex_items.Goals.{then-index-gt0, else-index-gt0}
use Rattle.hart_station.proofs.lines.push_hex_items.Goals as goal

-- one more part is joined to one or more parts by a byte before it
join_with_byte-push : (c : ℕ) (x : List ℕ) (xs : List (List ℕ)) (y : List ℕ)
    → join_with_byte c ((x ∷ xs) ++ y ∷ []) ≡ join_with_byte c (x ∷ xs) ++ c ∷ y
join_with_byte-push c x [] y = refl
join_with_byte-push c x (z ∷ zs) y = grind (arith, append_assoc, join_with_byte-push c z zs y)

-- a further byte is added after a space
hex_items-more : (bytes : List ℕ) (i d : ℕ) → i < length bytes → 0 < i
    → hex_items (take (i + 1) bytes) ≡ hex_items (take i bytes) ++ 32 ∷ encode_upper (get_or bytes i d ∷ [])
hex_items-more bytes i d within more = grind (arith, common_steps, join_with_byte-push, map_more)

pub loop-index-preserved : goal.loop-index-preserved
loop-index-preserved g c = grind (arith, common_steps, else-index-gt0, hex_items-more, then-index-gt0)
