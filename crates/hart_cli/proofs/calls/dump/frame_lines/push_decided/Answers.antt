use Rattle.std.proofs.Common.{◌≡◌, ◌<◌, arith}
use Rattle.std.proofs.lemmas.Grind.{common_steps}
use Rattle.hart_frame.specs.wire.View.{found_of}
use Rattle.hart_cli.proofs.lemmas.dump.FrameLines.{added_all, added_next, added_none, next_long}
use Rattle.hart_cli.proofs.calls.dump.frame_lines.push_decided.Goals as goal

pub loop-found-init : goal.loop-found-init
loop-found-init c = added_none _ _ _ _

pub returns-in_default : goal.returns-in_default
returns-in_default c =
    let next = c.next_in_bytes-next.ensures in
    added_all _ _ _ c.loop-found.used _ _ _ c.loop-found.invariant (rw c.in_default.is at next.frames) next.within
    (next.few c.in_default.is) (next.all c.in_default.is) (next.undecided c.in_default.is)

pub push_frame_line-requires : goal.push_frame_line-requires
push_frame_line-requires c =
    let next = c.next_in_bytes-next.ensures in
    let long = next_long _ _ c.loop-found.used _ (found_of c.in-Some.found) (rw c.in-Some.is at next.frames) in
    let order : c.in-Some.found.start < c.in-Some.found.stop = rw c.in-Some.is at next.order in
    let stop : c.in-Some.found.stop ≡ c.next_in_bytes-next.result.used = rw c.in-Some.is at next.stop in
    let added = c.loop-found.invariant.room in
    grind (arith, common_steps)

pub loop-found-smaller : goal.loop-found-smaller
loop-found-smaller c =
    let next = c.next_in_bytes-next.ensures in
    let long = next_long _ _ c.loop-found.used _ (found_of c.in-Some.found) (rw c.in-Some.is at next.frames) in
    omega (arith, long, next.within)

pub loop-found-preserved : goal.loop-found-preserved
loop-found-preserved c =
    let next = c.next_in_bytes-next.ensures in
    added_next _ _ _ c.loop-found.used _ _ _ _ (found_of c.in-Some.found) c.loop-found.invariant (rw c.in-Some.is at next.frames)
    next.within c.push_frame_line.ensures.line c.push_frame_line.ensures.few
