-- The next sighting in bytes, and the places before it at which nothing is seen (implementation choice).
use Rattle.std.specs.Prelude.{◌≡◌, ◌≢◌, ◌<◌, ◌≤◌, ◌+◌, ◌-◌, ◌&&◌, ◌⊎◌, not, ℕ, Bool, true, false, ⊤, List, [], ◌∷◌, ◌++◌, Option}
use Rattle.std.specs.Prelude.{None, Some, drop, is_none, length, slice_index}
use Rattle.hart_frame.specs.heard.Character.{Character, faultless}
use Rattle.hart_frame.specs.heard.Miss.{body_miss}
use Rattle.hart_frame.specs.heard.Sighting.{header_at, two_begin_in_body}
use Rattle.hart_frame.specs.private.Prefix.{IsPrefix}
use Rattle.hart_frame.specs.wire.View.{parts_of}
use Rattle.hart_frame.specs.wire.Body.{IsBody}
use Rattle.std.specs.List.{slice_range}
use Rattle.hart_frame.specs.wire.Header.{header_in}
use Rattle.hart_frame.specs.wire.Layout.{body_length}
use Rattle.hart_frame.specs.wire.Parity.{IsCheckByte}
use Rattle.hart_frame.specs.wire.Refusal.{HasGoodByteCount, IsTruncated}
use Rattle.hart_frame.specs.declared.heard.miss.Miss.{Miss}
use Rattle.hart_frame.specs.declared.heard.miss.Miss.TheVariants.{OnePreamble}
use Rattle.hart_frame.specs.declared.scan.sighting.After.{After}
use Rattle.hart_frame.specs.declared.scan.sighting.After.TheVariants.{Damaged, End, More}
use Rattle.hart_frame.specs.declared.scan.sighting.Standing.{Standing}
use Rattle.hart_frame.specs.declared.scan.sighting.Standing.TheVariants as standing
use Rattle.hart_frame.specs.declared.scan.sighting.Standing.TheVariants.{Nothing, Open}
use Rattle.hart_frame.specs.declared.wire.prefix.Prefix.TheVariants.{Whole}
use Rattle.hart_frame.specs.declared.scan.view.FoundView.{FoundView}
use Rattle.hart_frame.specs.scan.Sighting.{NamesPlacesBelow, heard_with}

-- A search asks about a place after `from` only if a sighting may stand there; such a place is called *asked*. A preamble byte stands right
-- before an asked place. The place itself has a byte that is no preamble byte, or a character with fault bits.
pub record IsAsked (bytes : List ℕ) (after : After) (from place : ℕ) : Type 0 where
  pub order : from < place
  pub within : place ≤ length bytes
  pub preamble : slice_index bytes (place - 1) ≡ 255
  pub other : place < length bytes → slice_index bytes place ≢ 255
  pub heard : place < length (heard_with bytes after)

-- The next asked place after `from`, or `None` if there is no such place.
abbrev pub IsNextAsked : List ℕ → After → ℕ → Option ℕ → Type 0
IsNextAsked bytes after from None = (place : ℕ) → IsAsked bytes after from place → ⊥
IsNextAsked bytes after from (Some next) =
    IsAsked bytes after from next × ((place : ℕ) → IsAsked bytes after from place → next ≤ place)

-- What may follow the bytes. `More`: any characters. `Damaged`: this character with fault bits, and then any characters. `End`: nothing.
abbrev pub MayFollow : After → List Character → Type 0
MayFollow More next = ⊤
MayFollow (Damaged character) next = (character.faults ≢ 0) × (more : List Character) × (next ≡ character ∷ more)
MayFollow End next = next ≡ []

-- `holds` is true of the bytes followed by any characters that may come after them.
abbrev pub Whatever : List ℕ → After → (List Character → Type 0) → Type 0
Whatever bytes after holds = (next : List Character) → MayFollow after next → holds (faultless bytes ++ next)

-- The miss of the characters from a place on, or `None` if they begin with a whole body.
abbrev pub HasBodyMiss : ℕ → Option Miss → List Character → Type 0
HasBodyMiss start miss chars = body_miss start (drop start chars) ≡ miss

-- Later characters do not change the header at a place: it is the header at the front of the bytes from there on.
abbrev pub KeepsHeader : List ℕ → ℕ → List Character → Type 0
KeepsHeader bytes start chars = header_at chars start ≡ header_in (drop start bytes)

-- Whether a body stands alone at a place: a whole body stands there, and no two FF in a row begin within it.
abbrev pub stands_alone : List Character → ℕ → Bool
stands_alone chars start = is_none (body_miss start (drop start chars)) && not (two_begin_in_body chars start)

-- Whether a body stands alone at a place depends on what follows the bytes. If certain characters follow, a body stands alone there, and if
-- certain others follow, none does.
pub record MayStandAlone (bytes : List ℕ) (start : ℕ) : Type 0 where
  pub one : List Character
  pub alone : stands_alone (faultless bytes ++ one) start ≡ true
  pub other : List Character
  pub not_alone : stands_alone (faultless bytes ++ other) start ≡ false

-- Bytes end in FF and lack only their check byte, and the check byte that fits is FF too.
pub record LacksOnePreamble (bytes : List ℕ) : Type 0 where
  pub good : HasGoodByteCount bytes
  pub last : body_length bytes ≡ length bytes + 1
  pub before : slice_index bytes (length bytes - 1) ≡ 255
  pub check : IsCheckByte bytes 255

-- What stands at a place right after a single preamble byte. `Nothing`: no body stands alone there, whatever comes. `Open`: later bytes
-- decide whether a body stands alone there. `Missed`: a body stands alone there, which is a miss.
abbrev pub IsAfterOne : List ℕ → After → ℕ → Standing → Type 0
IsAfterOne bytes after start Nothing = Whatever bytes after (λ chars. stands_alone chars start ≡ false)
IsAfterOne bytes after start (Open used) =
    (after ≡ More) × (used + 1 ≡ start) × (length bytes ≤ start + 267) × MayStandAlone bytes start
IsAfterOne bytes after start (standing.Message layout) = ⊥
IsAfterOne bytes after start (standing.Missed miss) =
    (miss ≡ OnePreamble) × Whatever bytes after (λ chars. stands_alone chars start ≡ true)
    × Whatever bytes after (KeepsHeader bytes start)

-- What stands at a place right after two preamble bytes. `Open`: bytes that may become a body, so nothing is decided yet. `Message`: a
-- message. `Missed`: a miss, whose header later characters do not change.
abbrev pub IsAfterTwo : List ℕ → After → ℕ → Standing → Type 0
IsAfterTwo bytes after start Nothing = ⊥
IsAfterTwo bytes after start (Open used) = (after ≡ More) × (used + 2 ≡ start) × IsTruncated (drop start bytes)
IsAfterTwo bytes after start (standing.Message layout) = IsPrefix (drop start bytes) (Whole layout)
IsAfterTwo bytes after start (standing.Missed miss) =
    Whatever bytes after (HasBodyMiss start (Some miss)) × NamesPlacesBelow (length (heard_with bytes after)) miss
    × Whatever bytes after (KeepsHeader bytes start)

-- Two preamble bytes stand right before an asked place, both at or after `from`.
abbrev pub FollowsTwo : List ℕ → ℕ → ℕ → Type 0
FollowsTwo bytes from start = (from + 2 ≤ start) × (slice_index bytes (start - 2) ≡ 255)

-- What stands at an asked place, after two preamble bytes or after a single preamble byte.
abbrev pub IsStandingAt : List ℕ → After → ℕ → ℕ → Standing → Type 0
IsStandingAt bytes after from start standing =
    (FollowsTwo bytes from start × IsAfterTwo bytes after start standing)
    ⊎ ((FollowsTwo bytes from start → ⊥) × IsAfterOne bytes after start standing)

-- A message starts at `start` and stops at `stop`, and the body of its frame lies between these places.
pub record IsMessageAt (bytes : List ℕ) (start stop : ℕ) (view : FoundView) : Type 0 where
  pub start_is : view.start ≡ start
  pub stop_is : view.stop ≡ stop
  pub order : start < stop
  pub within : stop ≤ length bytes
  pub body : IsBody (parts_of view.frame) (slice_range bytes start stop)

-- The bytes before the place `used`, which is at or after `from`, are used up. Only preamble bytes at the end of the list, at most two, are
-- not used.
abbrev pub IsUsed : List ℕ → ℕ → ℕ → Type 0
IsUsed bytes from used = (from ≤ used) × (
    ((used ≡ length bytes) × ((from < used) → slice_index bytes (used - 1) ≢ 255))
    ⊎ ((used + 1 ≡ length bytes) × (slice_index bytes used ≡ 255) × ((from < used) → slice_index bytes (used - 1) ≢ 255))
    ⊎ ((used + 2 ≡ length bytes) × (slice_index bytes used ≡ 255) × (slice_index bytes (used + 1) ≡ 255)))

-- The place up to which bytes are used up if nothing is seen in them. If more may come, preamble bytes at the end are not used up.
-- Otherwise all bytes are used up, and so is the character with fault bits, if there is one.
abbrev pub IsPassed : List ℕ → After → ℕ → ℕ → Type 0
IsPassed bytes More from used = IsUsed bytes from used
IsPassed bytes (Damaged character) from used = used ≡ length bytes + 1
IsPassed bytes End from used = used ≡ length bytes

-- Nothing is seen at a place, whatever comes: no two preamble bytes stand right before it, and no body stands alone at it.
abbrev pub IsSilent : List ℕ → After → ℕ → ℕ → Type 0
IsSilent bytes after from place =
    (FollowsTwo bytes from place → ⊥) × Whatever bytes after (λ chars. stands_alone chars place ≡ false)

-- Nothing is seen at any asked place up to `to`.
abbrev pub AreSilent : List ℕ → After → ℕ → ℕ → Type 0
AreSilent bytes after from to = (place : ℕ) → IsAsked bytes after from place → place ≤ to → IsSilent bytes after from place
