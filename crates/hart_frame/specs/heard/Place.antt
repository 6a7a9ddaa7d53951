-- Where frames stand in what was heard (HCF_SPEC-081). Where the body of a message may start, whether or not an intact body follows
-- (implementation choice).
use Rattle.std.specs.Prelude.{◌≡◌, ◌≤◌, ◌+◌, ℕ, List, ◌∷◌, ◌++◌, length, ◌≢◌, []}
use Rattle.hart_frame.specs.wire.Body.{IsBody}
use Rattle.hart_frame.specs.heard.Character.{Character, faultless}
use Rattle.hart_frame.specs.wire.Refusal.{IsTruncated}
use Rattle.hart_frame.specs.declared.heard.found.Found.{Found}

-- A frame stands in a list at or after the place `from`: two faultless preamble bytes FF stand there, and the frame's body follows
-- directly, in faultless characters. The frame starts after the two FF, and stops after its body.
pub record StandsIn (found : Found) (chars : List Character) (from : ℕ) : Type 0 where
  pub prefix : List Character
  pub body : List ℕ
  pub rest : List Character
  pub split : chars ≡ prefix ++ faultless (255 ∷ 255 ∷ body) ++ rest
  pub is_body : IsBody found.frame body
  pub after : from ≤ length prefix
  pub start : found.start ≡ length prefix + 2
  pub stop : found.stop ≡ length prefix + 2 + length body

-- A place is open if a frame may still begin there. Two faultless preamble bytes FF stand right before it. All characters from the place to
-- the end of the list are faultless, but end too early for a body.
pub record IsOpen (place : ℕ) (chars : List Character) : Type 0 where
  pub prefix : List Character
  pub bytes : List ℕ
  pub split : chars ≡ prefix ++ faultless (255 ∷ 255 ∷ bytes)
  pub start : place ≡ length prefix + 2
  pub truncated : IsTruncated bytes

-- A frame starts at this place of a list.
abbrev pub HasFrameAt : List Character → ℕ → Type 0
HasFrameAt chars place = (found : Found) × StandsIn found chars 0 × (found.start ≡ place)

-- A frame starts at the place `start` of a list, and its check byte stands right before the place `stop`.
abbrev pub HasFrameUpTo : List Character → ℕ → ℕ → Type 0
HasFrameUpTo chars start stop = (found : Found) × StandsIn found chars 0 × (found.start ≡ start) × (found.stop ≡ stop)

-- A body may start at a place if two faultless preamble bytes FF stand right before it, and the character at it is not a faultless FF.
pub record IsStart (place : ℕ) (chars : List Character) : Type 0 where
  pub prefix : List Character
  pub first : Character
  pub rest : List Character
  pub split : chars ≡ prefix ++ faultless (255 ∷ 255 ∷ []) ++ first ∷ rest
  pub place_is : place ≡ length prefix + 2
  pub other : first ≢ record { byte = 255; faults = 0 }

-- The first start of a list is the least place where a body may start.
pub record IsFirstStart (place : ℕ) (chars : List Character) : Type 0 where
  pub start : IsStart place chars
  pub least : (other : ℕ) → IsStart other chars → place ≤ other

-- A list has no start if a body may start at no place of the list.
abbrev pub HasNoStart : List Character → Type 0
HasNoStart chars = (place : ℕ) → IsStart place chars → ⊥
