use Rattle.hart_frame.proofs.Common.{◌≡◌, ◌≢◌, ◌≤◌, ◌<◌, ◌+◌, ◌-◌, ℕ, List, length, drop, take, get_or, arith, length-drop, nat_tests}
use Rattle.hart_frame.proofs.Common.{get_or-drop, length-take-le, take_rest}
use Rattle.std.proofs.Common.{slice_index}
use Rattle.memchr.specs.Find.{Nowhere, Passes, is_byte}
use Rattle.hart_frame.proofs.scan.search.next_preamble.Goals as goal

-- If the first `count` bytes of the rest of a list are not FF, the same bytes of the list are not FF.
others : (bytes : List ℕ) (from count : ℕ) → Nowhere (Passes (is_byte 255) (take (length bytes - from) (drop from bytes))) 0 count
    → count ≤ length (take (length bytes - from) (drop from bytes))
    → (place : ℕ) → from ≤ place → place < from + count → slice_index bytes place ≢ 255
others bytes from count nowhere within place after before same =
    let there : get_or (take (length bytes - from) (drop from bytes)) (place - from) 0 ≡ 255 = grind (arith, take_rest, get_or-drop) in
    grind (arith, nat_tests, length-take-le, length-drop)

pub returns-in-Some-clause-others : goal.returns-in-Some-clause-others
returns-in-Some-clause-others c =
    others c.args.bytes.now c.args.from c.in-Some.offset c.in-Some.ensures.0.before (omega (arith, c.in-Some.ensures.0.high))

pub returns-in-None-clause-others : goal.returns-in-None-clause-others
returns-in-None-clause-others c = grind (arith, others)
