use Rattle.std.proofs.Common.{ℕ, ◌<◌, slice_index}
use Rattle.hart_values.specs.packed_text.Packing.{IsPackedAt}
use Rattle.hart_values.proofs.packed_text.packing.pack.Given as goal

abbrev pub invariant-loop-place : goal.invariant-loop-place
invariant-loop-place l = record {
  groups : (k : ℕ) → k < l.place → IsPackedAt l.text l.bytes k;
  fits : (k : ℕ) → slice_index l.bytes k < 256;
}
