use Rattle.std.proofs.Common.{◌<◌, arith}
use Rattle.std.proofs.lemmas.List.{places}
use Rattle.std.proofs.lemmas.List.Elements.{All-from_get_or}
use Rattle.hart_values.proofs.packed_text.packing.pack.Goals as goal

pub loop-place-preserved : goal.loop-place-preserved
loop-place-preserved c = record {
  groups = λ k h. grind (arith, places, c.loop-place.invariant.groups k);
  fits = λ k. omega (arith, c.type_inv.bytes k);
}

pub returns : goal.returns
returns c = record {
  lengths = omega (arith, c.requires.lengths, c.loop-place.auto.bytes);
  characters = c.requires.characters;
  bytes_fit = All-from_get_or (λ byte. byte < 256) c.loop-place.bytes 0 (λ k h. c.loop-place.invariant.fits k);
  groups = λ k h. c.loop-place.invariant.groups k (omega (arith, c.requires.lengths, c.loop-place.auto.bytes, c.loop-place-test.false));
}
