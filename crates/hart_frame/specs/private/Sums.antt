-- Check bytes of the first bytes from a place on (implementation choice).
use Rattle.std.specs.Prelude.{◌≡◌, ℕ, ◌+◌, ◌≤◌, List, drop, length, slice_index, take}
use Rattle.hart_frame.specs.wire.Parity.{IsCheckByte}
use Rattle.hart_frame.specs.declared.wire.sums.Sums.{Sums}

-- The sums of bytes. The entry `count` of `checks` is the check byte of the `count` bytes from the place `from` on. There is an entry for
-- each `count` up to `to - from`.
pub record AreSums (bytes : List ℕ) (sums : Sums) : Type 0 where
  pub order : sums.from ≤ sums.to
  pub within : sums.to ≤ length bytes
  pub room : sums.to ≤ sums.from + 1264
  pub full : length sums.checks ≡ 1265
  pub checks : (count : ℕ) → sums.from + count ≤ sums.to
      → IsCheckByte (take count (drop sums.from bytes)) (slice_index sums.checks count)
