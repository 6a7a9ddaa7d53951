use Rattle.hart_frame.proofs.Common.{arith, length-drop, refl, take_rest}
use Rattle.hart_frame.proofs.lemmas.scan.Search.{passed_before, searched_no_pair, searched_open, searched_stands, searching_first}
use Rattle.hart_frame.proofs.scan.search.search.Goals as goal

pub looked_at-decided-requires-clause-never : goal.looked_at-decided-requires-clause-never
looked_at-decided-requires-clause-never c = rw (take_rest c.args.bytes.now c.in-Some.start) at c.in-Never.ensures.candidate

pub returns-in-Open : goal.returns-in-Open
returns-in-Open c =
    let bytes = c.args.bytes.now in
    let from = c.args.from in
    let seen = c.args.seen in
    let start = c.in-Some.start in
    let next = c.in-Some.ensures in
    let is = rw (take_rest bytes start) at c.in-Open.ensures in
    let searching = searching_first bytes from seen c.requires.order c.requires.within c.requires.few in
    rw c.open_at-in-Open.ensures
    (searched_open bytes from seen from seen start searching next.after (omega (arith, next.pair))
    (passed_before bytes from seen from start next) is.candidate (omega (arith, is.few, length-drop start bytes, next.pair)))

pub returns-in-Whole : goal.returns-in-Whole
returns-in-Whole c =
    let bytes = c.args.bytes.now in
    let from = c.args.from in
    let seen = c.args.seen in
    let is = rw (take_rest bytes c.in-Some.start) at c.in-Whole.ensures in
    let searching = searching_first bytes from seen c.requires.order c.requires.within c.requires.few in
    rw c.whole_at.ensures
    (searched_stands bytes from seen from seen c.in-Some.start _ c.in-Whole.layout searching c.in-Some.ensures is.candidate is.few refl)

pub returns-in_default : goal.returns-in_default
returns-in_default c =
    let bytes = c.args.bytes.now in
    let from = c.args.from in
    let last = rw (take_rest bytes from) at c.last_preambles.ensures in
    let searching = searching_first bytes from c.args.seen c.requires.order c.requires.within c.requires.few in
    rw c.open_at.ensures
    (searched_no_pair bytes from c.args.seen from c.args.seen c.last_preambles.result searching c.in_default.ensures last.few last.within
    last.preambles last.other)
