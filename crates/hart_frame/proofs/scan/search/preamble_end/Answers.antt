use Rattle.hart_frame.proofs.Common.{◌≡◌, ◌+◌, ◌-◌, ◌<◌, ◌≤◌, ℕ, get_or, arith, length-drop, get_or-drop, get_or-take, length-take-le}
use Rattle.hart_frame.proofs.Common.{take_rest}
use Rattle.hart_frame.proofs.scan.search.preamble_end.Goals as goal

pub returns : goal.returns
returns c =
    let is = rw (take_rest c.args.bytes.now c.args.from) at c.preamble_bytes.ensures in
    let all : (place : ℕ) → c.args.from ≤ place → place < c.args.from + c.preamble_bytes.result → get_or c.args.bytes.now place 0 ≡ 255 =
    λ place since below. grind (arith, length-take-le, length-drop, get_or-take, get_or-drop, is.preambles (place - c.args.from) 0) in
    grind (arith, is.within, is.next, length-drop, get_or-drop)
