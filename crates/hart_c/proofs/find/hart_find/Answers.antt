use Rattle.std.proofs.Common.{◌+◌, ◌++◌, take, arith, length, map, ◌<◌, ◌≡◌, inl, [], ◌-◌, inr, refl, true, ◌≤◌, ◌⊎◌, false}
use Rattle.std.proofs.Common.{Bool, ℕ, IsTrue, List, All, drop}
use Rattle.std.proofs.lemmas.Grind.{common_steps}
use Rattle.std.proofs.Common.{length-drop, take-add}
use Rattle.std.proofs.lemmas.List.{drop-drop, drop-map, length-map, length-take, take-map, take-take, take_rest}
use Rattle.hart_frame.specs.heard.Frames.{AreFrames, IsUndecided, none}
use Rattle.hart_frame.specs.scan.Scanner.{MovesPast, hearing}
use Rattle.hart_frame.specs.scan.Streamed.{begin, push_chars}
use Rattle.hart_frame.proofs.lemmas.Laws.{frames_are_streamed-pushed, messages_have_their_frame_alone-nothing}
use Rattle.hart_c.specs.Find.{char_of}
use Rattle.hart_c.specs.declared.frame.HartFrame.{HartFrame}
use Rattle.hart_c.proofs.find.hart_find.Goals.{then-loop-taken-test+else-count-frames, else-loop-taken-test}
use Rattle.std.proofs.Math.Seq.{take-length}
use Rattle.std.proofs.lemmas.List.{take-append-drop}
use Rattle.hart_frame.specs.declared.heard.found.Found.{Found}
use Rattle.hart_frame.specs.scan.Next.{AreNext}
use Rattle.hart_frame.specs.scan.Streamed.{IsHistory, finish}
use Rattle.hart_frame.specs.heard.Character.{Character}
use Rattle.hart_frame.specs.scan.Scanner.{Scan}
use Rattle.hart_frame.proofs.lemmas.Laws.{frames_are_streamed-all, frames_are_streamed-next}
use Rattle.hart_frame.proofs.lemmas.Laws.{held_characters_have_the_later_frames-held, next_frames_are_all-ended, next_frames_are_all-grown}
use Rattle.hart_frame.proofs.lemmas.Laws.{next_frames_are_all-whole}
use Rattle.hart_c.specs.Numbers.{found_in, IsTidy}
use Rattle.hart_c.specs.Find.{Finds}
use Rattle.hart_c.proofs.find.hart_find.Goals as goal

-- an empty list of characters is undecided, since it holds no frame
nothing_undecided : AreFrames [] 0 [] → IsUndecided []
nothing_undecided (none from nothing) = inl nothing

pub loop-taken-init : goal.loop-taken-init
loop-taken-init c =
    rw c.new-scanner.ensures (grind (arith, common_steps, begin, nothing_undecided messages_have_their_frame_alone-nothing))

pub push_chars-taken-requires-clause-room : goal.push_chars-taken-requires-clause-room
push_chars-taken-requires-clause-room c = grind (arith, common_steps, frames_are_streamed-pushed, length-take, length-map, length-drop)

pub loop-taken-preserved : goal.loop-taken-preserved
loop-taken-preserved c =
    let loop = c.loop-taken.invariant in
    let chars = map char_of c.args.heard.now in
    let n = c.push_chars-taken.result in
    let part = take n (take c.copy_front-len.result c.copy_front-len.new.chunk) in
    let all : take (c.loop-taken.taken + n) chars ≡ take c.loop-taken.taken chars ++ part =
    grind (arith, common_steps, take-add, take-take, take-map, drop-map, take_rest) in
    let moves : MovesPast (hearing c.loop-taken.scanner part) c.push_chars-taken.new.self [] =
    grind (arith, common_steps, c.push_chars-taken.ensures.moves) in
    let history = rw (← all) at (push_chars _ _ _ _ part loop.history loop.going moves) in
    let rest = drop-drop {A = HartFrame} (c.fill-count.result - c.loop-taken.count) c.loop-taken.count in
    let fill = c.fill-count.ensures in
    search (arith, rest, history, fill.tidy, fill.going, fill.waits, fill.few, fill.undecided, fill.so_far)

-- the next frames of the first `n` characters are the next frames of all characters, if the scan goes on, or if `n` is the number of all
-- characters and the input ended
next_of_all : (n : ℕ) (chars : List Character) (finished ended : Bool) (given : List Found) (used : ℕ)
    → (finished ≡ false) ⊎ (IsTrue ended × (n ≡ length chars)) → AreNext (take n chars) finished 0 given used
    → AreNext chars ended 0 given used
next_of_all n chars finished ended given used (inl going) next =
    rw take-append-drop at (next_frames_are_all-grown (take n chars) (drop n chars) ended 0 used given (rw going at next))
next_of_all n chars finished ended given used (inr (over, all)) next =
    next_frames_are_all-ended chars finished 0 used given ended (λ _. over) (rw (all, take-length) at next)

-- the search ends in one of two ways: the scanner waits for more, or the input has ended and all characters were searched
finds_more : (n count : ℕ) (chars : List Character) (ended : Bool) (before after : List HartFrame)
    (scan : Scan) → n ≤ length chars → count ≤ length after → drop count after ≡ drop count before → All IsTidy (take count after)
    → (scan.finished ≡ false) ⊎ (IsTrue ended × (n ≡ length chars)) → IsHistory (take n chars) scan (map found_in (take count after))
    → (count < length after → length scan.held ≤ 268) → (count < length after → n ≡ length chars) → (count < length after → ended ≡ false)
    → (count < length after → IsUndecided scan.held)
    → Finds chars ended before after (record { used = scan.first; count = count; fault = 0 })
finds_more n count chars ended before after scan fits room untouched tidy goes history few whole going waits =
    let given = map found_in (take count after) in
    let held = held_characters_have_the_later_frames-held (take n chars) scan given history in
    let pushed = frames_are_streamed-pushed (take n chars) scan given history in
    let long = length-take n chars in
    let next : AreNext chars ended 0 given scan.first =
    next_of_all n chars scan.finished ended given scan.first goes (frames_are_streamed-next (take n chars) scan given history) in
    let left : count < length after → IsUndecided (drop scan.first chars) =
    λ fewer. rw (rw (whole fewer, take-length) at held) (waits fewer) in
    search (arith, next, left, going, pushed, long)

pub returns-then-not-ended : goal.returns-then-not-ended
returns-then-not-ended c =
    let loop = c.loop-taken.invariant in
    let chars = map char_of c.args.heard.now in
    let is : c.found_so_far.result ≡ record { used = c.loop-taken.scanner.first; count = c.loop-taken.count; fault = 0 } =
    grind (arith, c.found_so_far.ensures, c.first_held.ensures.first) in
    let whole : c.loop-taken.count < length c.loop-taken.frames → c.loop-taken.taken ≡ length chars =
    grind (arith, common_steps, length-map, then-loop-taken-test+else-count-frames, else-loop-taken-test) in
    let going : c.loop-taken.count < length c.loop-taken.frames → c.args.ended ≡ false = grind (arith, c.then-not-ended.either) in
    let more = finds_more c.loop-taken.taken c.loop-taken.count chars c.args.ended c.args.frames.now c.loop-taken.frames
    c.loop-taken.scanner (rw length-map loop.within) loop.room loop.untouched loop.tidy (inl loop.going) loop.history loop.few whole going
    loop.undecided in
    inl (grind (arith, common_steps), rw is more)

pub returns-then-count-frames-3 : goal.returns-then-count-frames-3
returns-then-count-frames-3 c =
    let loop = c.loop-taken.invariant in
    let chars = map char_of c.args.heard.now in
    let fill = c.fill-count-2.ensures in
    let long = length-map c.args.heard.now char_of in
    let whole : c.loop-taken.taken ≡ length chars =
    grind (arith, common_steps, length-map, then-loop-taken-test+else-count-frames, else-loop-taken-test, c.if-count-frames-2.false) in
    let finished = rw (← c.finish.ensures) at (finish _ _ _ loop.history) in
    let all = rw (whole, take-length) at (fill.all (take c.loop-taken.taken chars) finished c.if-count-frames-3.true
    (rw c.finish.ensures refl)) in
    let given = map found_in (take c.fill-count-2.result c.fill-count-2.new.frames) in
    let next = next_frames_are_all-ended chars true 0 (length chars) given c.args.ended (λ _. grind arith)
    (next_frames_are_all-whole chars given (frames_are_streamed-all chars _ all)) in
    let tidy = fill.tidy loop.tidy in
    let rest = drop-drop {A = HartFrame} (c.fill-count-2.result - c.loop-taken.count) c.loop-taken.count in
    let onward : drop c.fill-count-2.result c.fill-count-2.new.frames ≡ drop c.fill-count-2.result c.args.frames.now =
    grind (arith, rest) in
    let found : Finds chars c.args.ended c.args.frames.now c.fill-count-2.new.frames
    (record { used = length chars; count = c.fill-count-2.result; fault = 0 }) = grind (arith, next) in
    inl (grind (arith, common_steps), rw c.found_so_far-then-count-frames-3.ensures (rw long at found))

pub returns : goal.returns
returns c =
    let loop = c.loop-taken.invariant in
    let chars = map char_of c.args.heard.now in
    let fill = c.fill-count-2.ensures in
    let is : c.found_so_far-2.result ≡ record { used = c.fill-count-2.new.scanner.first; count = c.fill-count-2.result; fault = 0 } =
    grind (arith, c.found_so_far-2.ensures, c.first_held-2.ensures.first) in
    let whole : c.loop-taken.taken ≡ length chars =
    grind (arith, common_steps, length-map, then-loop-taken-test+else-count-frames, else-loop-taken-test, c.if-count-frames-2.false) in
    let finished = rw (← c.finish.ensures) at (finish _ _ _ loop.history) in
    let shown = fill.so_far (take c.loop-taken.taken chars) finished
    (λ fewer. absurd (omega (arith, fewer, c.if-count-frames-3.false))) in
    let rest = drop-drop {A = HartFrame} (c.fill-count-2.result - c.loop-taken.count) c.loop-taken.count in
    let more = finds_more c.loop-taken.taken c.fill-count-2.result chars c.args.ended c.args.frames.now c.fill-count-2.new.frames
    c.fill-count-2.new.scanner in
    let found : Finds chars c.args.ended c.args.frames.now c.fill-count-2.new.frames
    (record { used = c.fill-count-2.new.scanner.first; count = c.fill-count-2.result; fault = 0 }) =
    search (arith, more, fill.tidy, whole, shown, rest) in
    inl (grind (arith, common_steps), rw is found)
