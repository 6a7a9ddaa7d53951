use Rattle.hart_frame.proofs.Common.{arith, drop, drop_all, MayBegin}
use Rattle.hart_frame.proofs.lemmas.scan.Candidate.{undecided_open}
use Rattle.hart_frame.proofs.lemmas.scan.Next.{body_at_place, ends_within, next_past, next_to}
use Rattle.hart_frame.proofs.scan.next.next_in_bytes.Goals as goal

pub returns-in_default-clause-frames : goal.returns-in_default-clause-frames
returns-in_default-clause-frames c =
    let found = c.search_to_end-searched.ensures in
    next_to c.args.bytes.now c.args.ended c.args.from c.search_to_end-searched.result.place found.after found.within found.none

pub returns-in_default-clause-undecided : goal.returns-in_default-clause-undecided
returns-in_default-clause-undecided c = λ none going.
    let may : MayBegin (drop c.search_to_end-searched.result.place c.args.bytes.now) = grind (arith, drop_all) in undecided_open _ may

pub slice_bounds-view_in-end : goal.slice_bounds-view_in-end
slice_bounds-view_in-end c = grind (arith, ends_within)

pub view_in-requires : goal.view_in-requires
view_in-requires c =
    let whole = rw c.in-Some.is at c.search_to_end-searched.ensures.stands in
    record { body = rw (body_at_place c.args.bytes.now _ _ c.in-Some.layout whole c.body_len.ensures) whole.whole }

pub returns-clause-frames : goal.returns-clause-frames
returns-clause-frames c =
    let found = c.search_to_end-searched.ensures in
    next_past c.args.bytes.now c.args.ended c.args.from _ _ c.in-Some.layout _ found.after found.within found.none
    (rw c.in-Some.is at found.stands) c.body_len.ensures c.view_in.ensures
