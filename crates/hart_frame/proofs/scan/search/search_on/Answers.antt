use Rattle.hart_frame.proofs.Common.{arith, length-drop, refl, take_rest}
use Rattle.hart_frame.proofs.lemmas.scan.Search.{passed_before, searched_no_pair, searched_open, searched_stands}
use Rattle.hart_frame.proofs.scan.search.search_on.Goals as goal

pub returns-in-Open : goal.returns-in-Open
returns-in-Open c =
    let bytes = c.args.bytes.now in
    let start = c.in-Some.start in
    let next = c.in-Some.ensures in
    let is = c.in-Open.ensures in
    rw c.open_at.ensures
    (searched_open bytes c.args.first c.args.known c.loop-start.place c.loop-start.decided start c.loop-start.invariant.0 next.after
    (omega (arith, next.pair)) (passed_before bytes c.args.first c.args.known c.loop-start.place start next) is.candidate
    (omega (arith, is.few, length-drop start bytes, next.pair)))

pub returns-in-Whole : goal.returns-in-Whole
returns-in-Whole c =
    let is = c.in-Whole.ensures in
    rw c.whole_at.ensures
    (searched_stands c.args.bytes.now c.args.first c.args.known c.loop-start.place c.loop-start.decided c.in-Some.start _ c.in-Whole.layout
    c.loop-start.invariant.0 c.in-Some.ensures is.candidate is.few refl)

pub returns : goal.returns
returns c =
    let bytes = c.args.bytes.now in
    let place = c.loop-start.place in
    let last = rw (take_rest bytes place) at c.last_preambles.ensures in
    rw c.open_at-2.ensures
    (searched_no_pair bytes c.args.first c.args.known place c.loop-start.decided c.last_preambles.result c.loop-start.invariant.0
    c.in_default.ensures last.few last.within last.preambles last.other)
