-- How bytes begin: with a frame, with what may become a frame, or with neither (HCF_SPEC-081).
use Rattle.std.specs.Prelude.{⊤, ◌≡◌, ◌≢◌, ℕ, ◌+◌, ◌<◌, ◌≤◌, ◌⊎◌, List, [], ◌∷◌, ◌++◌, length, take}
use Rattle.hart_frame.specs.heard.Character.{Character, faultless}
use Rattle.hart_frame.specs.wire.FrameParts.{FrameParts}
use Rattle.hart_frame.specs.wire.Body.{IsBody}
use Rattle.hart_frame.specs.private.Layout.{layout_length}
use Rattle.hart_frame.specs.private.Prefix.{IsWholeBody, shown_by}
use Rattle.hart_frame.specs.wire.Refusal.{IsTruncated}
use Rattle.hart_frame.specs.declared.wire.layout.Layout.{Layout}
use Rattle.hart_frame.specs.declared.scan.candidate.Candidate.{Candidate}
use Rattle.hart_frame.specs.declared.scan.candidate.Candidate.TheVariants.{Never, Open, Whole}
use Rattle.hart_frame.specs.declared.wire.prefix.Prefix.{Prefix}
use Rattle.hart_frame.specs.declared.wire.prefix.Prefix.TheVariants as prefix

-- Characters begin with no frame if they do not begin with two preamble bytes and a body.
abbrev pub BeginWithNone : List Character → Type 0
BeginWithNone chars = (frame : FrameParts) (body : List ℕ) (rest : List Character) → IsBody frame body
    → chars ≡ faultless (255 ∷ 255 ∷ body) ++ rest → ⊥

-- A list of characters cannot continue a frame if it is empty, or if it begins with a character with faults.
abbrev pub NothingFollows : List Character → Type 0
NothingFollows chars = (chars ≡ []) ⊎ ((first : Character) × (rest : List Character) × (chars ≡ first ∷ rest) × (first.faults ≢ 0))

-- Bytes never begin a frame if no frame stands at their front, whatever is heard after them.
abbrev pub NeverBegin : List ℕ → Type 0
NeverBegin bytes = (more : List Character) → BeginWithNone (faultless bytes ++ more)

-- Bytes may begin a frame if they are empty, or a single preamble byte, or two preamble bytes and then bytes that end too early for a body.
abbrev pub MayBegin : List ℕ → Type 0
MayBegin bytes = (bytes ≡ []) ⊎ (bytes ≡ 255 ∷ []) ⊎ ((after : List ℕ) × (bytes ≡ 255 ∷ 255 ∷ after) × IsTruncated after)

-- Every prefix of fewer than `count` bytes may begin a frame.
abbrev pub MayBeginBefore : ℕ → List ℕ → Type 0
MayBeginBefore count bytes = (fewer : ℕ) → fewer < count → MayBegin (take fewer bytes)

-- Bytes begin with a frame of a layout if they begin with two preamble bytes and a whole body of that layout.
pub record IsWhole (layout : Layout) (bytes : List ℕ) : Type 0 where
  pub body : List ℕ
  pub rest : List ℕ
  pub parts : bytes ≡ 255 ∷ 255 ∷ body ++ rest
  pub whole : IsWholeBody layout body

-- How bytes begin. `Never`: the first `count` bytes never begin a frame, and shorter prefixes may still begin a frame. `Open`: all bytes
-- together may begin a frame. `Whole`: the bytes begin with a frame, and each prefix that is too short for this frame may still begin a
-- frame.
abbrev pub IsCandidate : List ℕ → Candidate → Type 0
IsCandidate bytes (Never count) = (count ≤ length bytes) × NeverBegin (take count bytes) × MayBeginBefore count bytes
IsCandidate bytes Open = MayBegin bytes
IsCandidate bytes (Whole layout) = IsWhole layout bytes × MayBeginBefore (2 + layout_length layout) bytes

-- The limits of a candidate. Proving that no frame begins takes 2 to 269 bytes. Bytes that may still begin a frame are fewer than 269. A
-- body has at most 267 bytes.
abbrev pub IsShort : List ℕ → Candidate → Type 0
IsShort bytes (Never count) = (2 ≤ count) × (count ≤ 269)
IsShort bytes Open = length bytes < 269
IsShort bytes (Whole layout) = layout_length layout ≤ 267

-- How bytes begin if they are two preamble bytes and a rest. The argument says how this rest begins.
abbrev pub candidate_of : Prefix → Candidate
candidate_of (prefix.Whole layout) = Whole layout
candidate_of (prefix.Cut missing) = Open
candidate_of (prefix.Wrong wrong) = Never (2 + shown_by wrong)

-- A prefix is short if nothing is wrong with it, or if at most 267 bytes show what is wrong.
abbrev pub IsShortPrefix : Prefix → Type 0
IsShortPrefix (prefix.Wrong wrong) = shown_by wrong ≤ 267
IsShortPrefix other = ⊤
