-- What `hart master` is given (implementation choice).
use Rattle.std.specs.Prelude.{◌≤◌, ◌<◌, ℕ, List, Option, IfSome}
use Rattle.hart_frame.specs.wire.Message.{IsPreambleCount}

-- The word `who` says which of the two masters the program is. Three numbers say how often this master sends a request again, how many
-- character times it waits for a reply, and how many preamble bytes it sends. Without a timeout, this master waits as long as the same
-- master of `hart sim`.
pub record MasterWords : Type 0 where
  pub who : List ℕ
  pub retries : ℕ
  pub limit : Option ℕ
  pub preambles : ℕ

-- The limits of the numbers: at most 15 retries, a reply timeout of at least 1, and 5 to 20 preamble bytes.
abbrev pub AreInRange : MasterWords → Type 0
AreInRange words = (words.retries ≤ 15) × IfSome words.limit (λ limit. 0 < limit) × IsPreambleCount words.preambles
