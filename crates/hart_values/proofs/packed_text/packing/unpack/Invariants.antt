use Rattle.std.proofs.Common.{ℕ, ◌<◌, ◌*◌, slice_index}
use Rattle.hart_values.specs.packed_text.Packing.{IsCharacter, IsPackedAt}
use Rattle.hart_values.proofs.packed_text.packing.unpack.Given as goal

abbrev pub invariant-loop-place : goal.invariant-loop-place
invariant-loop-place l = record {
  groups : (k : ℕ) → k < l.place → IsPackedAt l.text l.bytes k;
  characters : (k : ℕ) → k < 4 * l.place → IsCharacter (slice_index l.text k);
}
