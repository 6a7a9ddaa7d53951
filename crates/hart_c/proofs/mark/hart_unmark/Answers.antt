use Rattle.std.proofs.Common.{◌+◌, ◌<◌, ℕ, List, arith, drop, length, refl, slice_set, take}
use Rattle.std.proofs.Math.Seq.{take-add}
use Rattle.std.proofs.lemmas.Grind.{common_steps}
use Rattle.std.proofs.lemmas.List.{drop-drop, drop-set-lt, length-set, take_more_set, take_rest}
use Rattle.hart_c.specs.Marks.{AreMarked, IsMarked, next, none}
use Rattle.hart_c.specs.declared.find.HartChar.{HartChar}
use Rattle.hart_c.proofs.mark.hart_unmark.Goals as goal

-- the next character and its bytes are added to what was read
marked_next : (bytes : List ℕ) (heard : List HartChar) (used len count : ℕ) (char : HartChar) → len < length heard
    → IsMarked (take count (drop used bytes)) char → AreMarked (take used bytes) (take len heard)
    → AreMarked (take (used + count) bytes) (take (len + 1) (slice_set heard len char))
marked_next bytes heard used len count char within is are =
    rw (take-add used count bytes, take_more_set heard len char within)
    (next (take used bytes) (take count (drop used bytes)) (take len heard) char are is)

pub loop-len-init : goal.loop-len-init
loop-len-init c = record { used = grind arith; shown = grind arith; room = refl; untouched = refl; marked = none }

pub loop-len-preserved : goal.loop-len-preserved
loop-len-preserved c = record {
  used = grind (arith, common_steps, c.in-Some.ensures.within);
  shown = grind (arith, common_steps, length-set);
  room = grind (arith, common_steps, length-set);
  untouched = grind (arith, common_steps, drop-set-lt, drop-drop, c.loop-len.invariant.untouched);
  marked = marked_next c.args.bytes.now c.loop-len.heard c.loop-len.used c.loop-len.len c.in-Some.next.len c.in-Some.next.char
      c.loop-len-test.true (rw (take_rest c.args.bytes.now c.loop-len.used) at c.in-Some.ensures.marked) c.loop-len.invariant.marked;
}
