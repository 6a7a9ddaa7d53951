-- What is decided about a buffer, and what it gives then.
use Rattle.hart_frame.proofs.lemmas.heard.Place.{stands_at}
use Rattle.hart_frame.proofs.Common.{◌≡◌, ◌≢◌, ℕ, ◌+◌, ◌↔◌, inl, inr, Bool, IsTrue, List, [], ◌∷◌, ◌++◌, length, drop, refl, arith}
use Rattle.hart_frame.proofs.Common.{append_assoc, length-append, length-drop, drop_at, map-append, Buffer, Drained, SearchResult, Layout}
use Rattle.hart_frame.proofs.Common.{faultless, FrameParts, IsSound, IsWaiting, held_bytes, scan_of, Scan, IsWhole, MovesPast, GivesNothing}
use Rattle.hart_frame.proofs.Common.{IsBody, layout_length, option_to_list, GivesSpan, HoldsWhole, IsHeldOpen, IsHeldSearched}
use Rattle.hart_frame.specs.declared.scan.buffer.State.TheVariants.{Busy, Stands}
use Rattle.hart_frame.specs.private.Buffer.{IsEnded}
use Rattle.hart_frame.specs.private.Prefix.{IsWholeBody}
use Rattle.hart_frame.specs.scan.Chunk.{BeginsWithFrame}
use Rattle.hart_frame.specs.private.Decision.{NoneBeginHeld}
use Rattle.hart_frame.specs.private.Search.{IsSearchedToEnd}
use Rattle.hart_frame.proofs.lemmas.scan.Buffer.{held_passed, moves_passed, passed, waits}
use Rattle.hart_frame.proofs.lemmas.scan.Next.{body_at_place}
use Rattle.hart_frame.proofs.lemmas.scan.Scan.{moves_frame, moves_then}
use Rattle.hart_frame.proofs.lemmas.scan.Undecided.{nothing_before}
use Rattle.hart_frame.proofs.lemmas.wire.BodiesFound.{held_frame}
use Rattle.hart_frame.proofs.lemmas.wire.Body.{IsBody-whole}

-- If a search of the held bytes to their end has a result, this is also the result for what the buffer holds.
pub held_searched : (b : Buffer) (ended : Bool) (found : SearchResult) → IsSound b → (IsTrue ended ↔ IsEnded b)
    → IsSearchedToEnd (held_bytes b) 0 ended found → IsHeldSearched b found
held_searched b ended found sound over is =
    let none : NoneBeginHeld b found.place = λ place below more closed.
    is.none place (omega arith) below (option_to_list b.damaged ++ more) (grind arith) in grind arith

-- A buffer after it gave the frame with which it began.
abbrev released : Buffer → Layout → Buffer
released b layout = passed b (2 + layout_length layout)

-- If the held bytes begin with a frame, two FF and the body are held first. The rest is what is still held after the frame is given.
held_whole : (b : Buffer) (layout : Layout) (whole : IsWhole layout (held_bytes b))
    → (scan_of b).held ≡ faultless (255 ∷ 255 ∷ whole.body) ++ (scan_of (released b layout)).held
held_whole b layout whole = grind (arith, map-append, append_assoc, held_passed, drop_at)

-- A buffer whose held bytes begin with a frame gives this frame as a span.
pub gives_span : (old b : Buffer) (layout : Layout) → IsSound b → HoldsWhole old b layout
    → GivesSpan old (released b layout)
    (record { at = b.from + 2; layout = layout; start = b.first + 2; stop = b.first + (2 + layout_length layout) })
gives_span old b layout sound holds =
    let new = scan_of (released b layout) in
    let whole = holds.begins in
    let body = body_at_place b.bytes b.from (layout_length layout) layout whole refl in
    let moves = λ (frame : FrameParts) (is : IsBody frame whole.body). moves_then (scan_of old) (scan_of b) new [] _ holds.moves
    (moves_frame (scan_of b) new frame whole.body (held_whole b layout whole) is (omega (arith, whole.whole.exact)) refl) in
    grind (arith, length-append, length-drop b.from b.bytes)

-- If a scanner moves past no frame, and in a second step gives nothing, the two steps together give nothing.
gives_nothing_then : (old mid new : Scan) → MovesPast old mid [] → GivesNothing mid new → GivesNothing old new
gives_nothing_then old mid new moves (inl waits) = let all = moves_then old mid new [] [] moves waits.moves in grind arith
gives_nothing_then old mid new moves (inr ends) = let none = nothing_before old mid moves ends.none in grind arith

-- A whole body that a layout describes is the body of a frame.
pub frame_of_whole : (layout : Layout) (body : List ℕ) → IsWholeBody layout body → (frame : FrameParts) × IsBody frame body
frame_of_whole layout body is = grind (arith, held_frame body, IsBody-whole)

-- If the held bytes begin with a frame of a layout, the scanner begins with a frame.
pub holds_frame : (b : Buffer) (layout : Layout) → IsWhole layout (held_bytes b) → BeginsWithFrame (scan_of b)
holds_frame b layout whole =
    let (frame, is) = frame_of_whole layout whole.body whole.whole in
    (_, stands_at (scan_of b).held 0 frame whole.body _ (omega arith) (held_whole b layout whole) is, refl)

-- A buffer gives nothing if it gives nothing after it drops the bytes before the found place.
pub given_nothing : (b mid : Buffer) (found : SearchResult) (new : Scan) → IsHeldSearched b found → mid ≡ passed b found.place
    → GivesNothing (scan_of mid) new → GivesNothing (scan_of b) new
given_nothing b mid found new is same after = grind (arith, gives_nothing_then, moves_passed b found Busy)

-- A buffer gives nothing if the bytes from the found place on may begin a frame.
pub given_open : (b : Buffer) (found : SearchResult) → IsHeldSearched b found → IsHeldOpen b found.place
    → length (held_bytes (passed b found.place)) ≢ 0
    → GivesNothing (scan_of b) (scan_of (record (passed b found.place) { state = Drained }))
given_open b found is opened some =
    let mid = record (passed b found.place) { state = Drained } in
    let waiting : IsWaiting mid = grind (arith, held_passed, length-drop) in
    gives_nothing_then (scan_of b) (scan_of mid) (scan_of mid) (moves_passed b found Drained is) (inl (waits mid _ waiting refl))

-- A buffer holds a frame if the bytes from the found place on begin with this frame.
pub given_stands : (b : Buffer) (found : SearchResult) (layout : Layout) → b.state ≡ Busy → IsHeldSearched b found
    → IsWhole layout (drop found.place (held_bytes b)) → HoldsWhole b (record (passed b found.place) { state = Stands layout }) layout
given_stands b found layout busy is whole = grind (arith, moves_passed b found (Stands layout) is, held_passed)
