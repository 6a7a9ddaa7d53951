-- The frames given since a scanner was new are the next frames in what was pushed. After the end they are all frames of what was pushed.
use Rattle.hart_frame.proofs.Common.{◌≡◌, ◌+◌, Bool, true, false, IsTrue, ℕ, List, [], ◌∷◌, ◌++◌, length, map, drop, refl, arith, Scan}
use Rattle.hart_frame.proofs.Common.{length-drop, append-nil, drop-append-le, drop-drop, Found, Character, AreFrames, HasNoFrame, moved}
use Rattle.hart_frame.proofs.Common.{AreNext, MovesPast, hearing, common_steps}
use Rattle.hart_frame.specs.scan.Streamed.{IsHistory, IsWholeHistory, begin, push, push_chars, take_view, wait, finish}
use Rattle.hart_frame.proofs.lemmas.heard.FramesFound.{AreFrames-found, AreFrames-one}
use Rattle.hart_frame.proofs.lemmas.heard.Rest.{rest_frames}
use Rattle.hart_frame.proofs.lemmas.scan.Next.{next_ended, next_frames, next_grown, next_nothing, next_of_rest, next_then}

-- The frames given so far are the next ones of what was pushed, up to the first held character, and the rest of what was pushed is held.
pub record IsStreamed (past : List Character) (scan : Scan) (given : List Found) : Type 0 where
  pub next : AreNext past scan.finished 0 given scan.first
  pub held : drop scan.first past ≡ scan.held

streamed_pushed : (past : List Character) (scan : Scan) (given : List Found) (cs : List Character) → scan.finished ≡ false
    → IsStreamed past scan given → IsStreamed (past ++ cs) (hearing scan cs) given
streamed_pushed past scan given cs going streamed = grind (arith, common_steps, next_grown, drop-append-le)

streamed_taken : (past : List Character) (old new : Scan) (given found : List Found) → IsStreamed past old given
    → MovesPast old new found → IsStreamed past new (given ++ found)
streamed_taken past old new given found streamed moves =
    let rest = next_of_rest old.first past old.finished moves.found moves.count streamed.next.within (rw (← streamed.held) at moves.next) in
    let next = next_then past old.finished 0 old.first _ given _ streamed.next rest in
    grind (arith, drop-drop)

-- Every history of a scanner is streamed in this way.
pub streamed : (past : List Character) (scan : Scan) (given : List Found) → IsHistory past scan given → IsStreamed past scan given
streamed past scan given begin = record { next = next_nothing [] false 0 (omega arith); held = refl }
streamed past scan given (push before old frames character history going) =
    streamed_pushed before old frames (character ∷ []) going (streamed before old frames history)
streamed past scan given (push_chars before old new frames chunk history going moves) =
    rw append-nil at (streamed_taken (before ++ chunk) (hearing old chunk) new frames []
    (streamed_pushed before old frames chunk going (streamed before old frames history)) moves)
streamed past scan given (take_view before old new frames found history gave) =
    streamed_taken before old new frames (found ∷ []) (streamed before old frames history) gave.moves
streamed past scan given (wait before old new frames history waited) =
    rw append-nil at (streamed_taken before old new frames [] (streamed before old frames history) waited.moves)
streamed past scan given (finish before old frames history) =
    let is = streamed before old frames history in
    record { next = next_ended before old.finished 0 old.first frames true (λ over. refl) is.next; held = is.held }

pub history_next : (past : List Character) (scan : Scan) (given : List Found) → IsHistory past scan given
    → AreNext past scan.finished 0 given scan.first
history_next past scan given history = (streamed past scan given history).next

-- What a scanner holds is what was pushed from the place of the first held character on.
pub history_held : (past : List Character) (scan : Scan) (given : List Found) → IsHistory past scan given
    → drop scan.first past ≡ scan.held
history_held past scan given history = (streamed past scan given history).held

-- The frames given so far are the first frames of all that is heard.
pub history_first : (past more : List Character) (scan : Scan) (given frames : List Found) → IsHistory past scan given
    → (IsTrue scan.finished → more ≡ []) → AreFrames (past ++ more) 0 frames → (later : List Found) × (frames ≡ given ++ later)
history_first past more scan given frames history ended are =
    grind (arith, AreFrames-found (past ++ more) scan.first, AreFrames-one, history_next past scan given history)

-- The numbers of dropped and of held characters add up to the number of pushed characters.
pub history_length : (past : List Character) (scan : Scan) (given : List Found) → IsHistory past scan given
    → scan.first + length scan.held ≡ length past
history_length past scan given history = grind (arith, streamed past scan given history, length-drop)

-- After the end, the given frames are all frames of what was pushed.
pub history_all : (past : List Character) (given : List Found) → IsWholeHistory past given → AreFrames past 0 given
history_all past given whole =
    let last = whole.last in
    let is = streamed past last given whole.history in
    let nothing : HasNoFrame (drop last.first past) 0 = rw is.held whole.ended.none in
    let none = rest_frames last.first past [] (AreFrames.none 0 nothing) in
    rw append-nil at (next_frames past last.finished 0 last.first given [] is.next none)

-- After the next frames come the frames of the characters that are left and of those still to come.
pub next_rest : (chars more : List Character) (ended : Bool) (given later : List Found) (to : ℕ) → AreNext chars ended 0 given to
    → (IsTrue ended → more ≡ []) → AreFrames (drop to chars ++ more) 0 later → AreFrames (chars ++ more) 0 (given ++ map (moved to) later)
next_rest chars more ended given later to next closed are = grind (arith, next, rest_frames, drop-append-le to chars more next.within)
