-- What a search for frames finds in faultless bytes (implementation choice).
use Rattle.std.specs.Prelude.{◌≡◌, ◌≢◌, ℕ, Bool, false, IsTrue, ◌+◌, ◌<◌, ◌≤◌, ◌⊎◌, List, ◌++◌, MatchOption, length, slice_index, take}
use Rattle.std.specs.Prelude.{drop}
use Rattle.hart_frame.specs.heard.Character.{Character, faultless}
use Rattle.hart_frame.specs.private.Candidate.{BeginWithNone, IsWhole, MayBegin, NeverBegin, NothingFollows}
use Rattle.hart_frame.specs.declared.scan.search.SearchResult.{SearchResult}

-- No frame begins at a place from `from` to `to - 1`, whatever is heard after the list.
abbrev pub NoneBegin : List ℕ → ℕ → ℕ → Type 0
NoneBegin bytes from to = (place : ℕ) → from ≤ place → place < to → NeverBegin (drop place bytes)

-- A list is open from `from` on: a frame may begin at a place from there on, and no frame begins between `from` and that place.
pub record IsOpenFrom (bytes : List ℕ) (from : ℕ) : Type 0 where
  pub place : ℕ
  pub after : from ≤ place
  pub within : place ≤ length bytes
  pub none : NoneBegin bytes from place
  pub may : MayBegin (drop place bytes)

-- Each prefix of at least `seen` but fewer than `count` bytes decides nothing from `from` on.
abbrev pub IsOpenBefore : List ℕ → ℕ → ℕ → ℕ → Type 0
IsOpenBefore bytes from seen count = (fewer : ℕ) → seen ≤ fewer → fewer < count → IsOpenFrom (take fewer bytes) from

-- All bytes together decide nothing: the bytes from the found place on, at most 268, may begin a frame.
abbrev pub IsOpenAll : List ℕ → SearchResult → Type 0
IsOpenAll bytes found =
    (found.decided ≡ length bytes) × (length bytes ≤ found.place + 268) × MayBegin (drop found.place bytes)

-- A search from `from` on finds a place before which no frame begins. The first `decided` bytes show this. Either a frame stands at the
-- place and within these bytes, or all bytes together decide nothing. No prefix of at least `seen` but fewer than `decided` bytes decides
-- anything. `decided` is at least `seen`, and at most 269 more than the place.
pub record IsSearched (bytes : List ℕ) (from seen : ℕ) (found : SearchResult) : Type 0 where
  pub after : from ≤ found.place
  pub order : found.place ≤ found.decided
  pub late : seen ≤ found.decided
  pub within : found.decided ≤ length bytes
  pub few : found.decided ≤ found.place + 269
  pub none : NoneBegin (take found.decided bytes) from found.place
  pub before : IsOpenBefore bytes from seen found.decided
  pub stands : MatchOption found.layout (IsOpenAll bytes found)
      (λ layout. IsWhole layout (drop found.place (take found.decided bytes)))

-- No frame begins at a place from `from` to `to - 1`, whatever may follow the list. If `ended` is true, only nothing or a character with
-- faults may follow.
abbrev pub NoneBeginThen : List ℕ → Bool → ℕ → ℕ → Type 0
NoneBeginThen bytes ended from to = (place : ℕ) → from ≤ place → place < to → (next : List Character)
    → (IsTrue ended → NothingFollows next) → BeginWithNone (faultless (drop place bytes) ++ next)

-- No frame is found from a place on in two cases. Either no bytes stand from there on. Or the bytes from there on, at most 268, may begin a
-- frame, and more bytes can follow them.
abbrev pub IsLeftOpen : List ℕ → Bool → ℕ → Type 0
IsLeftOpen bytes ended place =
    (length bytes ≡ place) ⊎ ((length bytes ≤ place + 268) × MayBegin (drop place bytes) × (ended ≡ false))

-- A search from `from` to the end of a list finds a place before which no frame begins. The bytes from that place on begin with a frame, or
-- no frame is found in them.
pub record IsSearchedToEnd (bytes : List ℕ) (from : ℕ) (ended : Bool) (found : SearchResult) : Type 0 where
  pub after : from ≤ found.place
  pub within : found.place ≤ length bytes
  pub none : NoneBeginThen bytes ended from found.place
  pub stands : MatchOption found.layout (IsLeftOpen bytes ended found.place) (λ layout. IsWhole layout (drop found.place bytes))

-- A pair stands at a place of a list if two preamble bytes FF stand there, followed by a byte other than FF.
abbrev pub HasPair : List ℕ → ℕ → Type 0
HasPair bytes place = (place + 3 ≤ length bytes) × (slice_index bytes place ≡ 255) × (slice_index bytes (place + 1) ≡ 255)
    × (slice_index bytes (place + 2) ≢ 255)

-- No pair stands in a list at a place from `from` to `to - 1`.
abbrev pub HasNoPair : List ℕ → ℕ → ℕ → Type 0
HasNoPair bytes from to = (place : ℕ) → from ≤ place → place < to → HasPair bytes place → ⊥

-- The next pair from a place on is the first pair that stands at or after this place.
pub record IsNextPair (bytes : List ℕ) (from start : ℕ) : Type 0 where
  pub after : from ≤ start
  pub pair : HasPair bytes start
  pub passed : HasNoPair bytes from start

-- A search at `place` has looked at the first `decided` bytes. In these bytes no frame begins at a place from `from` to `place - 1`. Each
-- prefix of at least `seen` but fewer than `decided` bytes decides nothing.
pub record IsSearching (bytes : List ℕ) (from seen place decided : ℕ) : Type 0 where
  pub after : from ≤ place
  pub order : place ≤ decided
  pub late : seen ≤ decided
  pub within : decided ≤ length bytes
  pub few : decided ≤ place + 269
  pub none : NoneBegin (take decided bytes) from place
  pub before : IsOpenBefore bytes from seen decided
