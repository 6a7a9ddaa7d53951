use Rattle.std.proofs.Common.{◌≡◌, ◌+◌, ◌<◌, ◌≤◌, false, Bool, ℕ, IsTrue, List, All, arith, drop, length, map, refl, take}
use Rattle.std.proofs.lemmas.Grind.{common_steps}
use Rattle.std.proofs.lemmas.List.{drop-drop, map-append, take_more_set, append-nil, drop-map, drop-set-lt, length-map, length-set}
use Rattle.std.proofs.lemmas.List.Elements.{All-append}
use Rattle.hart_frame.specs.heard.Character.{faultless}
use Rattle.hart_frame.specs.heard.Frames.{IsUndecided}
use Rattle.hart_frame.specs.scan.Next.{AreNext}
use Rattle.hart_frame.proofs.lemmas.Laws.{next_frames_are_all-nothing, next_frames_are_all-onward}
use Rattle.hart_c.specs.Find.{Finds}
use Rattle.hart_c.specs.Numbers.{IsTidy, found_in}
use Rattle.hart_c.specs.declared.frame.HartFrame.{HartFrame}
use Rattle.hart_c.proofs.find.hart_find_in_bytes.Goals as goal

-- the search ends in one of two ways: no more frames have room, or at most 268 bytes are left and decide no frame
finds_next : (bytes : List ℕ) (ended : Bool) (before after : List HartFrame) (used count : ℕ) → count ≤ length after
    → drop count after ≡ drop count before → All IsTidy (take count after)
    → AreNext (faultless bytes) ended 0 (map found_in (take count after)) used
    → (count < length after → (length bytes ≤ used + 268) × (IsTrue ended → used ≡ length bytes)
    × (ended ≡ false → IsUndecided (faultless (drop used bytes))))
    → Finds (faultless bytes) ended before after (record { used = used; count = count; fault = 0 })
finds_next bytes ended before after used count room untouched tidy next left = record {
  within = room;
  untouched = untouched;
  tidy = tidy;
  next = next;
  few = λ fewer. rw length-map (left fewer).0;
  all = λ fewer. rw length-map (left fewer).1;
  undecided = λ fewer going. rw drop-map ((left fewer).2 going);
  fault = refl;
}

pub loop-count-init : goal.loop-count-init
loop-count-init c = grind (arith, common_steps, next_frames_are_all-nothing)

pub loop-count-preserved : goal.loop-count-preserved
loop-count-preserved c =
    search (
      arith,
      common_steps,
      length-set,
      drop-set-lt,
      drop-drop,
      take_more_set,
      All-append,
      map-append,
      next_frames_are_all-onward,
    )

pub returns-in_default : goal.returns-in_default
returns-in_default c =
    let loop = c.loop-count.invariant in
    rw c.found_so_far.ensures (finds_next _ _ _ _ _ _ loop.room loop.untouched loop.tidy
    (grind (arith, common_steps, append-nil, next_frames_are_all-onward)) (grind (arith, common_steps)))

pub returns : goal.returns
returns c =
    let loop = c.loop-count.invariant in
    rw c.found_so_far-2.ensures (finds_next _ _ _ _ _ _ loop.room loop.untouched loop.tidy loop.next
    (λ fewer. absurd (omega (arith, fewer, c.loop-count-test.false))))
