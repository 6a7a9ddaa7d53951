-- What a scanner moves past when it drops characters.
use Rattle.hart_frame.proofs.Common.{◌≡◌, ℕ, ◌+◌, ◌<◌, ◌≤◌, false, IsTrue, List, [], ◌∷◌, ◌++◌, length, map, drop, arith, append_assoc}
use Rattle.hart_frame.proofs.Common.{length-append, length-drop, drop-append-le, drop-drop, drop-map, drop_at, length-map, map-append}
use Rattle.hart_frame.proofs.Common.{Found, Character, faultless, AreFrames, moved, BeginWithNone, MovesPast, Scan, hearing, IsBody}
use Rattle.hart_frame.proofs.Common.{FrameParts, common_steps}
use Rattle.hart_frame.proofs.lemmas.heard.Rest.{moved_twice}
use Rattle.hart_frame.proofs.lemmas.scan.Next.{next_grown, next_none, next_nothing, next_of_rest, next_one, next_then}

-- A scanner that drops nothing moves past no frame.
pub moves_none : (old new : Scan) → new.held ≡ old.held → new.first ≡ old.first → new.finished ≡ old.finished → MovesPast old new []
moves_none old new held firsts finished = grind (arith, next_nothing)

-- A scanner that moves past some frames and then past others moves past them all.
pub moves_then : (a b c : Scan) (xs ys : List Found) → MovesPast a b xs → MovesPast b c ys → MovesPast a c (xs ++ ys)
moves_then a b c xs ys p q =
    let next = next_then a.held a.finished 0 p.count (p.count + q.count) p.found (map (moved p.count) q.found) p.next
    (next_of_rest p.count a.held a.finished q.found q.count p.next.within (rw (p.held, p.finished) at q.next)) in
    grind (arith, map-append, moved_twice, drop-drop)

-- A scanner that hears more characters has still moved past the same frames.
pub moves_hearing : (a b : Scan) (cs : List Character) (given : List Found) → a.finished ≡ false → MovesPast a b given
    → MovesPast (hearing a cs) (hearing b cs) given
moves_hearing a b cs given going moves = grind (arith, common_steps, next_grown, drop-append-le)

-- The frames that a scanner moves past are the next frames in all that was heard. This is true whatever was dropped before and whatever
-- comes later.
pub moves_frames : (old new : Scan) (given later : List Found) (past more : List Character) → MovesPast old new given
    → length past ≡ old.first → (IsTrue old.finished → more ≡ []) → AreFrames (past ++ (old.held ++ more)) new.first later
    → AreFrames (past ++ (old.held ++ more)) old.first (given ++ later)
moves_frames old new given later past more moves long closed frames =
    let rest : drop old.first (past ++ old.held) ≡ old.held = drop_at past old.held old.first long in
    let next = next_of_rest old.first (past ++ old.held) old.finished moves.found moves.count
    (omega (arith, long, length-append past old.held)) (rw rest moves.next) in
    let led = next.leads more later closed (rw (append_assoc, ← moves.first) frames) in rw (moves.given_are, ← append_assoc) led

-- Moving past frames does not change the number of dropped and held characters together.
pub moves_length : (a b : Scan) (given : List Found) → MovesPast a b given
    → (b.first + length b.held ≡ a.first + length a.held) × (a.first ≤ b.first)
moves_length a b given moves = grind (arith, length-drop)

-- A scanner that drops characters at which no frame begins moves past no frame.
pub moves_past : (old new : Scan) (count : ℕ) → count ≤ length old.held → new.held ≡ drop count old.held → new.first ≡ old.first + count
    → new.finished ≡ old.finished → ((place : ℕ) → place < count → (more : List Character) → (IsTrue old.finished → more ≡ [])
    → BeginWithNone (drop place old.held ++ more)) → MovesPast old new []
moves_past old new count within held firsts finished never =
    let next = next_none old.held old.finished 0 count (omega arith) within (λ place since below. never place below) in grind arith

-- A scanner that drops a frame at the front of what it holds moves past this frame.
pub moves_frame : (old new : Scan) (f : FrameParts) (body : List ℕ) → old.held ≡ faultless (255 ∷ 255 ∷ body) ++ new.held → IsBody f body
    → new.first ≡ old.first + 2 + length body → new.finished ≡ old.finished
    → MovesPast old new (record { start = old.first + 2; stop = new.first; frame = f } ∷ [])
moves_frame old new f body held is firsts finished =
    let next = next_one old.held old.finished 0 f body new.held (omega arith) held is in grind (arith, length-map, drop_at)

-- A scanner that drops bytes at which no frame begins moves past no frame.
pub moves_places : (old new : Scan) (bytes : List ℕ) (count : ℕ) → old.held ≡ faultless bytes → new.held ≡ faultless (drop count bytes)
    → new.first ≡ old.first + count → new.finished ≡ old.finished → count ≤ length bytes
    → ((place : ℕ) → place < count → (more : List Character) → (IsTrue old.finished → more ≡ [])
    → BeginWithNone (faultless (drop place bytes) ++ more)) → MovesPast old new []
moves_places old new bytes count held rest firsts finished within never =
    moves_past old new count (grind (arith, length-map)) (grind (arith, drop-map)) firsts finished
    (λ place below more ended. rw (held, drop-map) (never place below more ended))
