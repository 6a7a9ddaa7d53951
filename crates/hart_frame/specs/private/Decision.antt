-- What a scanner decides from its buffer: a frame stands in it, or no frame is decided yet (implementation choice). The first frame of what
-- was heard (HCF_SPEC-081).
use Rattle.std.specs.Prelude.{◌≡◌, ◌≤◌, ◌<◌, ◌+◌, ◌⊎◌, ℕ, false, IsTrue, None, MatchOption, List, [], ◌++◌, drop, length}
use Rattle.std.specs.List.{slice_range}
use Rattle.std.specs.Option.{option_to_list}
use Rattle.hart_frame.specs.heard.Character.{Character, faultless}
use Rattle.hart_frame.specs.wire.FrameParts.{FrameParts}
use Rattle.hart_frame.specs.wire.Body.{IsBody}
use Rattle.hart_frame.specs.private.Layout.{layout_length}
use Rattle.hart_frame.specs.private.Buffer.{held_bytes, is_drained, scan_of}
use Rattle.hart_frame.specs.private.Candidate.{BeginWithNone, IsWhole, MayBegin}
use Rattle.hart_frame.specs.private.Prefix.{IsWholeBody}
use Rattle.hart_frame.specs.scan.Scanner.{Gives, MovesPast}
use Rattle.hart_frame.specs.declared.wire.layout.Layout.{Layout}
use Rattle.hart_frame.specs.declared.scan.buffer.Buffer.{Buffer}
use Rattle.hart_frame.specs.declared.scan.buffer.Span.{Span}
use Rattle.hart_frame.specs.declared.scan.search.SearchResult.{SearchResult}
use Rattle.hart_frame.specs.heard.Frames.{IsFirst}
use Rattle.hart_frame.specs.declared.heard.found.Found.{Found}

-- The bytes of the body at a span of the buffer's list.
abbrev pub body_at : Buffer → Span → List ℕ
body_at b span = slice_range b.bytes span.at (span.at + layout_length span.layout)

-- A whole body lies at the span, and the scanner gives its frame.
pub record GivesSpan (old new : Buffer) (span : Span) : Type 0 where
  pub within : span.at + layout_length span.layout ≤ length new.bytes
  pub body : IsWholeBody span.layout (body_at new span)
  pub given : (frame : FrameParts) → IsBody frame (body_at new span)
      → Gives (scan_of old) (scan_of new) (record { start = span.start; stop = span.stop; frame = frame })

-- The buffer dropped bytes at which no frame begins, and the bytes that it still holds begin with a frame.
pub record HoldsWhole (old new : Buffer) (layout : Layout) : Type 0 where
  pub moves : MovesPast (scan_of old) (scan_of new) []
  pub busy : is_drained old.state ≡ false
  pub undrained : is_drained new.state ≡ false
  pub begins : IsWhole layout (held_bytes new)

-- No frame begins at any of the first `count` bytes that are held, whatever is heard later.
abbrev pub NoneBeginHeld : Buffer → ℕ → Type 0
NoneBeginHeld b count = (place : ℕ) → place < count → (more : List Character) → (IsTrue b.finished → more ≡ [])
    → BeginWithNone (faultless (drop place (held_bytes b)) ++ (option_to_list b.damaged ++ more))

-- The held bytes from a place on decide no frame in two cases. Either no bytes are held from there on, or these bytes, at most 268, may
-- begin a frame and more bytes can follow.
abbrev pub IsHeldOpen : Buffer → ℕ → Type 0
IsHeldOpen b place = (length (held_bytes b) ≡ place)
    ⊎ ((length (held_bytes b) ≤ place + 268) × MayBegin (drop place (held_bytes b)) × (b.damaged ≡ None) × (b.finished ≡ false))

-- A search of the held bytes finds a place before which no frame begins. A frame begins at that place, or the bytes from there on decide
-- nothing.
pub record IsHeldSearched (b : Buffer) (found : SearchResult) : Type 0 where
  pub within : found.place ≤ length (held_bytes b)
  pub none : NoneBeginHeld b found.place
  pub stands : MatchOption found.layout (IsHeldOpen b found.place) (λ layout. IsWhole layout (drop found.place (held_bytes b)))

-- A whole body lies at the span. The places of the span are within a list of characters, and the first frame of that list has this body.
pub record HoldsFirst (buffer : Buffer) (chars : List Character) (span : Span) : Type 0 where
  pub stored : span.at + layout_length span.layout ≤ length buffer.bytes
  pub body : IsWholeBody span.layout (body_at buffer span)
  pub order : span.start < span.stop
  pub within : span.stop ≤ length chars
  pub first : (frame : FrameParts) → IsBody frame (body_at buffer span)
      → IsFirst (record { start = span.start; stop = span.stop; frame = frame }) chars 0

-- The first frame of a list, with its places in that list.
pub record IsFirstIn (found : Found) (chars : List Character) : Type 0 where
  pub first : IsFirst found chars 0
  pub order : found.start < found.stop
  pub within : found.stop ≤ length chars
