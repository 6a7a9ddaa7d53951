use Rattle.std.proofs.Common.{◌≡◌, ◌+◌, true, false, Bool, ℕ, List, [], ◌++◌, drop, length, IsTrue, map, arith, refl}
use Rattle.std.proofs.lemmas.List.{append-nil, drop-append-le}
use Rattle.hart_frame.specs.declared.heard.found.Found.{Found}
use Rattle.hart_frame.specs.heard.Character.{Character}
use Rattle.hart_frame.specs.heard.Frames.{moved}
use Rattle.hart_frame.specs.scan.Next.{AreNext}
use Rattle.hart_frame.proofs.lemmas.Laws.{next_frames_are_all-all, next_frames_are_all-grown, next_frames_are_all-moved}
use Rattle.hart_frame.proofs.lemmas.Laws.{next_frames_are_all-nothing, next_frames_are_all-onward}
use Rattle.hart_c.specs.Find.{begin, search}
use Rattle.hart_c.proofs.laws.searches_give_all_frames.Goals as goal

-- if more is heard later, the frames that were found before are still the next frames of the longer input
still_next : (heard piece : List Character) (was ended : Bool) (given : List Found) (used : ℕ)
    → (IsTrue was → (piece ≡ []) × IsTrue ended) → AreNext heard was 0 given used → AreNext (heard ++ piece) ended 0 given used
still_next heard piece false ended given used stays before = next_frames_are_all-grown heard piece ended 0 used given before
still_next heard piece true true given used stays before = rw ((stays refl).0, append-nil) before
still_next heard piece true false given used stays before = let over = (stays refl).1 in absurd cc

-- one more search gives the next frames after the frames that were given before
next_more : (heard piece : List Character) (was ended : Bool) (given found : List Found) (used further : ℕ)
    → (IsTrue was → (piece ≡ []) × IsTrue ended) → AreNext heard was 0 given used → AreNext (drop used heard ++ piece) ended 0 found further
    → AreNext (heard ++ piece) ended 0 (given ++ map (moved used) found) (used + further)
next_more heard piece was ended given found used further stays before now =
    let first = still_next heard piece was ended given used stays before in
    let rest = rw (← drop-append-le used heard piece before.within) at now in
    next_frames_are_all-onward (heard ++ piece) ended 0 used (used + further) given (map (moved used) found) first
    (next_frames_are_all-moved used (heard ++ piece) ended found further first.within rest)

-- after every search, the frames found so far are the next frames of the input; in the end they are all its frames
pub returns-clause-next : goal.returns-clause-next
returns-clause-next c heard ended given used begin = next_frames_are_all-nothing [] false 0 (omega arith)
returns-clause-next c heard ended given used (search past piece was end frames found gone further before stays now) =
    next_more past piece was end frames found gone further stays (returns-clause-next c past was frames gone before) now

pub returns-clause-all : goal.returns-clause-all
returns-clause-all c heard given searched =
    next_frames_are_all-all heard true given (returns-clause-next c heard true given (length heard) searched)
