use Rattle.std.proofs.Common.{◌≡◌, ◌≤◌, ◌-◌, ◌*◌, ◌/◌, ℕ, List, inl, inr, arith, length, length-append, refl, take}
use Rattle.std.proofs.Math.Seq.{take-append-add}
use Rattle.std.proofs.lemmas.Grind.{common_steps}
use Rattle.std.proofs.lemmas.List.{length-replicate, take-replicate}
use Rattle.std.proofs.lemmas.List.Elements.{All-append, All-replicate}
use Rattle.std.specs.Prelude.{All, replicate}
use Rattle.hart_values.specs.packed_text.Packing.{IsCharacter, IsPackedSize}
use Rattle.hart_c.specs.Texts.{padded}
use Rattle.hart_c.proofs.packed_text.pack_into.Goals as goal

-- the first `count` characters of a text that is filled up to 32 are the text, filled up to `count`
take_padded : (text : List ℕ) (count : ℕ) → length text ≤ count → count ≤ 32 → take count (padded 32 text) ≡ padded count text
take_padded text count few small =
    grind (
      arith,
      take-append-add text (replicate (32 - length text) 0x20) (count - length text),
      take-replicate {X = ℕ} (count - length text) (32 - length text) 0x20,
    )

-- a text that is filled up to `count` characters has `count` characters
long : (text : List ℕ) (count : ℕ) → length text ≤ count → length (padded count text) ≡ count
long text count few = grind (arith, length-append, length-replicate)

-- packed text has at most 32 characters
small : (size : ℕ) → IsPackedSize size → 4 * size / 3 ≤ 32
small size is = grind arith

-- filling up a text adds only spaces, which are characters of packed text
all_padded : (text : List ℕ) (count : ℕ) → All IsCharacter text → All IsCharacter (padded count text)
all_padded text count all =
    All-append IsCharacter text (replicate (count - length text) 0x20) all
    (All-replicate IsCharacter (count - length text) 0x20 (grind arith))

pub returns-in_default-clause-refused : goal.returns-in_default-clause-refused
returns-in_default-clause-refused g c =
    let text = c.args.text.now in
    let few : length text ≤ 4 * g.row.N / 3 = grind (arith, common_steps, c.if-text.false) in
    let whole = take_padded text (4 * g.row.N / 3) few (small g.row.N c.requires.size) in
    let bad : All IsCharacter text → ⊥ = λ all.
    grind (
      arith,
      common_steps,
      whole,
      all_padded text (4 * g.row.N / 3) all,
      long text (4 * g.row.N / 3) few,
      c.padded-whole.ensures,
      c.in_default.ensures.accepted,
    ) in
    inr (c.requires.size, inr (few, inl (bad, refl)))

pub returns-clause-packed : goal.returns-clause-packed
returns-clause-packed g c =
    let text = c.args.text.now in
    let few : length text ≤ 4 * g.row.N / 3 = grind (arith, common_steps, c.if-text.false) in
    let whole : take (4 * g.row.N / 3) c.padded-whole.result ≡ padded (4 * g.row.N / 3) text =
    grind (arith, c.padded-whole.ensures, take_padded text (4 * g.row.N / 3) few (small g.row.N c.requires.size)) in
    let made : c.copy_from_slice.new.self ≡ c.in-Ok.made = grind (arith, common_steps) in
    (refl, rw (made, ← whole) c.in-Ok.ensures.packed)
