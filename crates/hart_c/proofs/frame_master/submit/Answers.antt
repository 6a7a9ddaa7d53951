use Rattle.std.proofs.Common.{◌≡◌, Ok, arith}
use Rattle.std.proofs.lemmas.Grind.{common_steps}
use Rattle.hart_c.proofs.Masters.{submit_refused, submit_taken}
use Rattle.hart_master.specs.FrameMaster.{IsRequestFrame, hand_submitted, result_submitted}
use Rattle.hart_c.specs.FrameMaster.{master_of}
use Rattle.hart_c.proofs.frame_master.submit.Goals as goal

pub returns-in-Err-clause-refused : goal.returns-in-Err-clause-refused
returns-in-Err-clause-refused c =
    let (address, (expansion, (payload, (asked, end)))) = c.in_ok-frame.ensures.passed in
    let request : IsRequestFrame c.in_ok-frame.frame = rw c.in_ok-frame.ensures.same asked in
    let said = c.submit.ensures.result request in
    submit_refused c.args.request.now c.args.master.now c.in_ok-state.state c.in_ok-frame.frame c.in-Err.rejected _
    c.in_ok-frame.ensures.same c.in_ok-state.ensures.kept c.in_ok-frame.ensures.passed (grind (arith, said, c.in-Err.is)) c.fault_of.ensures

pub returns-clause-taken : goal.returns-clause-taken
returns-clause-taken c =
    let (address, (expansion, (payload, (asked, end)))) = c.in_ok-frame.ensures.passed in
    let request : IsRequestFrame c.in_ok-frame.frame = rw c.in_ok-frame.ensures.same asked in
    let taken : result_submitted c.in_ok-state.state.hand c.in_ok-frame.frame ≡ Ok tt =
    grind (arith, common_steps, c.submit.ensures.result request) in
    let written : c.keep.new.master
    ≡ master_of (record c.in_ok-state.state { hand = hand_submitted c.in_ok-state.state.hand c.in_ok-frame.frame }) c.args.request.now =
    grind (arith, c.keep.ensures, c.submit.ensures.state request, c.in_ok-state.ensures.kept) in
    let (passed, becomes) = submit_taken c.args.request.now c.args.master.now c.keep.new.master c.in_ok-state.state c.in_ok-frame.frame
    c.in_ok-frame.ensures.same c.in_ok-state.ensures.kept c.in_ok-frame.ensures.passed taken written in
    (passed, c.in_ok-state.state, becomes)
