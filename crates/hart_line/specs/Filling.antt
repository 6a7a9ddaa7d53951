-- Lists that reserve room for their items before they are filled (implementation choice).
use Rattle.std.specs.Prelude.{ℕ, ◌≤◌, List}
use denote.Memory.{lone}
use denote.RattleType.{RattleType}
use prog.Memory.{size}

-- A list that is being filled: its items so far, and room for `room` items in all.
pub record Filled (T : Type 0) : Type 0 where
  pub items : List T
  pub room : ℕ

-- Items of a type are small if each takes at most 512 bytes.
abbrev pub AreSmall : RattleType → Type 0
AreSmall T = size (lone T.mir) ≤ 512
