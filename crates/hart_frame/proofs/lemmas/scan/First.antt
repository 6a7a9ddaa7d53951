-- How a scanner that hears a list gives the first frame of the list.
use Rattle.hart_frame.proofs.Common.{inl, inr, add-zero, ◌≡◌, ℕ, ◌≤◌, false, Option, Some, None, List, [], ◌∷◌, ◌++◌, length, take}
use Rattle.hart_frame.proofs.Common.{drop, arith, refl, subst, take-length, append-nil, length-take-le, take-append-drop, MatchOption, Scan}
use Rattle.hart_frame.proofs.Common.{is_some, Found, Buffer, Character, AreFrames, HasNoFrame, IsFirst, moved, Hears, scan_of, GivesNothing}
use Rattle.hart_frame.proofs.Common.{MovesPast, hearing, IsBody, FrameParts, GivesSpan, Gives}
use Rattle.hart_frame.specs.declared.scan.buffer.Span.{Span}
use Rattle.hart_frame.specs.private.Decision.{body_at, HoldsFirst, IsFirstIn}
use Rattle.hart_frame.specs.scan.Chunk.{StopsAt}
use Rattle.hart_frame.specs.scan.Scanner.{finishing, new_scan}
use Rattle.hart_frame.proofs.lemmas.heard.FramesFound.{AreFrames-found, head_first}
use Rattle.hart_frame.proofs.lemmas.heard.Place.{StandsIn-within}
use Rattle.hart_frame.proofs.lemmas.heard.Rest.{first_moved, stands_back}
use Rattle.hart_frame.proofs.lemmas.scan.Decision.{frame_of_whole}
use Rattle.hart_frame.proofs.lemmas.scan.Scan.{moves_frames, moves_then}
use Rattle.hart_frame.proofs.lemmas.scan.Undecided.{holds_gives, nothing_before, waits_only}

-- The first of the frames of a list is its first frame, and it lies within the list.
first_in : (chars : List Character) (found : Found) → (later : List Found) × AreFrames chars 0 (found ∷ later) → IsFirstIn found chars
first_in chars found (later, are) = grind (arith, head_first chars 0 found later are, StandsIn-within found chars 0)

-- If a new scanner hears a list and then gives a frame, this frame is the first of the list's frames.
given_frames : (chars : List Character) (count : ℕ) (start mid new : Scan) (found : Found) → start ≡ new_scan
    → MovesPast (hearing start (take count chars)) mid [] → Gives mid new found → (later : List Found) × AreFrames chars 0 (found ∷ later)
given_frames chars count start mid new found is_new moves gives =
    let (later, are) = AreFrames-found chars new.first in
    let heard = hearing new_scan (take count chars) in
    let first = subst (λ (s : Scan). MovesPast (hearing s (take count chars)) mid []) is_new moves in
    let all = moves_then heard mid new [] (found ∷ []) first gives.moves in
    let split = take-append-drop count chars in (
      later,
      rw split at (moves_frames heard new (found ∷ []) later [] (drop count chars) all refl (λ over. absurd cc) (rw split are)),
    )

-- If a new scanner gives nothing after it hears a list, it has heard all of the list, and waits.
waits_after : (chars : List Character) (count : ℕ) (start mid waiting : Scan) → start ≡ new_scan
    → MovesPast (hearing start (take count chars)) mid [] → StopsAt mid count (length chars) → GivesNothing mid waiting
    → MovesPast (hearing new_scan chars) waiting []
waits_after chars count start mid waiting is_new moves stops nothing =
    let all : count ≡ length chars = grind (arith, stops, holds_gives mid waiting) in
    let going : mid.finished ≡ false = grind (arith, moves.finished) in
    let waits = waits_only mid waiting going nothing in
    let first = subst (λ (s : Scan). MovesPast (hearing s (take count chars)) mid []) is_new moves in
    moves_then (hearing new_scan chars) mid waiting [] [] (rw (all, take-length) at first) waits.moves

-- If a scanner that heard a whole list is finished and gives nothing, the list has no frame.
last_none : (chars : List Character) (waiting new : Scan) → MovesPast (hearing new_scan chars) waiting []
    → GivesNothing (finishing waiting) new → HasNoFrame chars 0
last_none chars waiting new moves (inl waits) = absurd (grind arith)
last_none chars waiting new moves (inr ends) = nothing_before (hearing new_scan chars) waiting moves ends.none

-- If a scanner that heard a whole list is finished and gives a frame, this frame is the first of the list's frames.
last_frames : (chars : List Character) (waiting new : Scan) (found : Found) → MovesPast (hearing new_scan chars) waiting []
    → Gives (finishing waiting) new found → (later : List Found) × AreFrames chars 0 (found ∷ later)
last_frames chars waiting new found moves gives =
    let (later, are) = AreFrames-found chars new.first in
    let gone = take moves.count chars in
    let long : length gone ≡ waiting.first = grind (arith, length-take-le) in
    let parts : gone ++ (waiting.held ++ []) ≡ chars = rw (append-nil, moves.held) (take-append-drop moves.count chars) in
    let after = moves_frames (finishing waiting) new (found ∷ []) later gone [] gives.moves long (λ over. refl) (rw parts are) in (
      later,
      rw append-nil at
          (moves_frames (hearing new_scan chars) waiting [] (found ∷ later) [] [] moves refl (λ over. refl)
          (rw append-nil (rw parts at after))),
    )

-- If a new scanner hears a list and then gives a frame, this is the first frame of the list.
pub scanned_first : (chars : List Character) (count : ℕ) (start mid new : Scan) (found : Found) → start ≡ new_scan
    → MovesPast (hearing start (take count chars)) mid [] → Gives mid new found → IsFirstIn found chars
scanned_first chars count start mid new found is_new moves gives =
    first_in chars found (given_frames chars count start mid new found is_new moves gives)

-- If a new scanner gives nothing after it hears a list, it gives the first frame of the list once it is finished, unless the list has none.
pub scanned_last : (chars : List Character) (count : ℕ) (start mid waiting old new : Scan) (given : Option Found) → start ≡ new_scan
    → MovesPast (hearing start (take count chars)) mid [] → StopsAt mid count (length chars) → GivesNothing mid waiting
    → old ≡ finishing waiting → MatchOption given (GivesNothing old new) (Gives old new)
    → MatchOption given (HasNoFrame chars 0) (λ found. IsFirstIn found chars)
scanned_last chars count start mid waiting old new None is_new moves stops nothing finished after =
    last_none chars waiting new (waits_after chars count start mid waiting is_new moves stops nothing)
    (subst (λ (s : Scan). GivesNothing s new) finished after)
scanned_last chars count start mid waiting old new (Some found) is_new moves stops nothing finished after =
    first_in chars found
    (last_frames chars waiting new found (waits_after chars count start mid waiting is_new moves stops nothing)
    (subst (λ (s : Scan). Gives s new found) finished after))

-- A buffer that gives a span holds the first frame of a list, if each frame that it may give there is the first of the list.
holds_first : (chars : List Character) (old new : Buffer) (span : Span) → GivesSpan old new span
    → ((found : Found) → Gives (scan_of old) (scan_of new) found → IsFirstIn found chars) → HoldsFirst new chars span
holds_first chars old new span gives first =
    let found : FrameParts → Found = λ frame. record { start = span.start; stop = span.stop; frame = frame } in
    let (some, is) = frame_of_whole span.layout (body_at new span) gives.body in
    let head = first (found some) (gives.given some is) in
    record {
      stored = gives.within;
      body = gives.body;
      order = head.order;
      within = head.within;
      first = λ frame body. (first (found frame) (gives.given frame body)).first;
    }

-- If a span holds the first frame of a list, the list has a first frame, which stops where the span stops.
pub some_first : (chars : List Character) (buffer : Buffer) (span : Span) → HoldsFirst buffer chars span
    → (found : Found) × IsFirst found chars 0 × (found.stop ≡ span.stop)
some_first chars buffer span holds =
    let (frame, is) = frame_of_whole span.layout (body_at buffer span) holds.body in (_, holds.first frame is, refl)

-- If a span holds the first frame of a list, a copy of the frame at the span is this first frame.
pub first_copied : (chars : List Character) (buffer : Buffer) (span : Span) (found : Found) → HoldsFirst buffer chars span
    → IsBody found.frame (body_at buffer span) → found.start ≡ span.start → found.stop ≡ span.stop → IsFirst found chars 0
first_copied chars buffer span found holds is start stop = rw (← start, ← stop) at (holds.first found.frame is)

-- If no span is given for a list, the list has no frame.
pub none_first : (chars : List Character) (buffer : Buffer) (given : Option Span) → is_some given ≡ false
    → MatchOption given (HasNoFrame chars 0) (HoldsFirst buffer chars) → HasNoFrame chars 0
none_first chars buffer None none is = is
none_first chars buffer (Some span) none is = absurd cc

-- If a new scanner hears a list and then gives a span, the span holds the first frame of the list.
pub first_given : (chars : List Character) (count : ℕ) (old mid new : Buffer) (span : Span) → scan_of old ≡ new_scan
    → Hears (scan_of old) (scan_of mid) chars count → GivesSpan mid new span → HoldsFirst new chars span
first_given chars count old mid new span is_new hears given =
    holds_first chars mid new span given (λ found gives.
    scanned_first chars count (scan_of old) (scan_of mid) (scan_of new) found is_new hears.moves gives)

-- If a new scanner gives nothing after it hears a list, it holds the first frame of the list once it is finished, unless the list has none.
pub first_finished : (chars : List Character) (count : ℕ) (start mid waiting old new : Buffer) (given : Option Span)
    → scan_of start ≡ new_scan → Hears (scan_of start) (scan_of mid) chars count
    → GivesNothing (scan_of mid) (scan_of waiting) → scan_of old ≡ finishing (scan_of waiting)
    → MatchOption given (GivesNothing (scan_of old) (scan_of new)) (GivesSpan old new)
    → MatchOption given (HasNoFrame chars 0) (HoldsFirst new chars)
first_finished chars count start mid waiting old new None is_new hears nothing finished after =
    scanned_last chars count (scan_of start) (scan_of mid) (scan_of waiting) (scan_of old) (scan_of new) None is_new hears.moves hears.stops
    nothing finished after
first_finished chars count start mid waiting old new (Some span) is_new hears nothing finished after =
    holds_first chars old new span after (λ found gives.
    scanned_last chars count (scan_of start) (scan_of mid) (scan_of waiting) (scan_of old) (scan_of new) (Some found) is_new hears.moves
    hears.stops nothing finished gives)

-- The first frame of the rest of a list, moved, is the first frame of the list from there on.
pub first_later : (chars rest : List Character) (from : ℕ) (found : Found) → from ≤ length chars → rest ≡ drop from chars
    → IsFirst found rest 0 → IsFirst (moved from found) chars from
first_later chars rest from found within is least =
    grind (arith, take-append-drop, add-zero, length-take-le, first_moved (take from chars) (drop from chars) found from 0)

pub no_later : (chars rest : List Character) (from : ℕ) → from ≤ length chars → rest ≡ drop from chars → HasNoFrame rest 0
    → HasNoFrame chars from
no_later chars rest from within is empty found there =
    grind (arith, stands_back (take from chars) rest found from 0, add-zero, length-take-le, take-append-drop)
