-- What a sender puts on the line (HCF_SPEC-081).
use Rattle.std.specs.Prelude.{◌≡◌, ◌≤◌, ℕ, List, ◌++◌, replicate}
use Rattle.hart_frame.specs.wire.FrameParts.{FrameParts}
use Rattle.hart_frame.specs.wire.Body.{IsBody}

-- A sender sends 5 to 20 preamble bytes.
abbrev pub IsPreambleCount : ℕ → Type 0
IsPreambleCount count = (5 ≤ count) × (count ≤ 20)

-- A message is `preambles` preamble bytes FF, and then a body of the frame.
pub record IsMessage (frame : FrameParts) (preambles : ℕ) (bytes : List ℕ) : Type 0 where
  pub body : List ℕ
  pub is_body : IsBody frame body
  pub parts : bytes ≡ replicate preambles 255 ++ body
