-- Bits of a byte that are set under a condition.
use Rattle.std.specs.Prelude.{ℕ, Bool, if◌then◌else◌}

-- The bit if the condition is true, and 0 otherwise.
abbrev pub bit_if : Bool → ℕ → ℕ
bit_if holds bit = if holds then bit else 0
