-- What a teller was told (implementation choice).
use Rattle.std.specs.Prelude.{List, ◌++◌}
use Rattle.hart_listen.specs.Dated.{Dated}

-- A teller, and the writer that it tells to, at one moment.
pub record Moment (T : Type 0) (W : Type 0) : Type 0 where
  pub teller : T
  pub writer : W

-- A moment of these two.
abbrev pub moment : {T W : Type 0} → T → W → Moment T W
moment teller writer = record { teller = teller; writer = writer }

-- A relation between three moments and what was told: it was told from the first moment to the last one. The second moment lies between
-- them.
abbrev pub ToldBetween : (T W : Type 0) → Type 1
ToldBetween T W = Moment T W → Moment T W → Moment T W → List Dated → Type 0

-- More was told, whatever was told before.
abbrev pub Tells : {T W : Type 0} → ToldBetween T W → Moment T W → Moment T W → List Dated → Type 0
Tells {T} {W} Told old new more =
    (start since : Moment T W) (list : List Dated) → Told start since old list → Told start since new (list ++ more)
