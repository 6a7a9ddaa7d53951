use Rattle.std.proofs.Common.{◌<◌, arith}
use Rattle.std.proofs.lemmas.List.{places}
use Rattle.std.proofs.lemmas.List.Elements.{All-from_get_or}
use Rattle.hart_values.specs.packed_text.Packing.{IsCharacter}
use Rattle.hart_values.proofs.packed_text.packing.unpack.Goals as goal

pub loop-place-preserved : goal.loop-place-preserved
loop-place-preserved c = record {
  groups = λ k h. grind (arith, places, c.loop-place.invariant.groups k);
  characters = λ k h. grind (arith, places, c.loop-place.invariant.characters k);
}

pub returns : goal.returns
returns c = record {
  lengths = omega (arith, c.requires, c.loop-place.auto.text);
  characters =
      All-from_get_or IsCharacter c.loop-place.text 0
      (λ k h. c.loop-place.invariant.characters k (omega (arith, c.requires, c.loop-place-test.false, c.loop-place.auto.text)));
  bytes_fit = All-from_get_or (λ byte. byte < 256) c.args.bytes.now 0 (λ k h. omega (arith, c.type_inv.bytes k));
  groups = λ k h. c.loop-place.invariant.groups k (omega (arith, c.requires, c.loop-place-test.false));
}
