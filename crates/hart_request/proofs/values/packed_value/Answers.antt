use Rattle.std.proofs.Common.{◌≡◌, ◌*◌, ◌/◌, ℕ, List, Ok, All, arith, refl}
use Rattle.std.proofs.lemmas.Bool.Decides.{nat_tests}
use Rattle.std.specs.Str.{chars}
use Rattle.hart_commands.specs.declared.fields.FieldKind.TheVariants.{PackedText}
use Rattle.hart_values.specs.packed_text.Packing.{IsCharacter}
use Rattle.hart_request.specs.Values.{can_have, text_value}
use Rattle.hart_request.proofs.lemmas.Texts.{given_good}
use Rattle.hart_request.proofs.values.packed_value.Goals as goal

-- every character of a given packed text can be packed
packable : (most : ℕ) (word text : List ℕ) → Ok text ≡ text_value (can_have PackedText) most word → All IsCharacter text
packable most word text is =
    let good = given_good (can_have PackedText) refl most word text is in
    λ k d below. grind (arith, nat_tests, good k d below)

pub packed-requires-clause-characters : goal.packed-requires-clause-characters
packed-requires-clause-characters c =
    rw c.as_slice.ensures.value (packable (4 * c.from.result / 3) (chars c.args.word.now) _ c.in_ok-text.ensures)

pub packed-requires-in-12-clause-characters : goal.packed-requires-in-12-clause-characters
packed-requires-in-12-clause-characters c =
    rw c.as_slice-in-12.ensures.value (packable (4 * c.from.result / 3) (chars c.args.word.now) _ c.in_ok-text.ensures)

pub packed-requires-in_default-clause-characters : goal.packed-requires-in_default-clause-characters
packed-requires-in_default-clause-characters c =
    rw c.as_slice-in_default.ensures.value (packable (4 * c.from.result / 3) (chars c.args.word.now) _ c.in_ok-text.ensures)
