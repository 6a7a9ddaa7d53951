use Rattle.std.proofs.Common.{◌≡◌, Result, append-nil, false, inl, inr, refl, true}
use Rattle.std.proofs.lemmas.Result.{err_from_is_err_and}
use Rattle.hart_cli.specs.declared.fault.CliFault.{CliFault}
use Rattle.hart_cli.specs.explain.Printer.{Ends, EndsWith, PrintedBetween}
use Rattle.hart_listen.proofs.lemmas.Laws.{tellers_are_told_what_is_heard}
use Rattle.hart_cli.proofs.lemmas.explain.Printer.{prints_end, prints_page}
use Rattle.hart_cli.proofs.calls.explain.finish.Given.{Over}
use Rattle.hart_cli.proofs.calls.explain.finish.Goals.{After-write}
use Rattle.hart_cli.proofs.calls.explain.finish.Goals as goal

-- the rest was printed and written, or a write failed in it
ended : {T : Type 0} (g : Over) (c : After-write g) (result : Result T CliFault)
    → EndsWith c.args.fault (c.write.new.self.failed ≡ false) (c.write.new.self.failed ≡ true) result
    → Ends g.W.Sink.stream c.args.listener.now c.args.printer.now c.args.fault c.args.writer.now c.write.new.writer result
ended g c result ends start since heard (list, told, h) =
    let prints = tellers_are_told_what_is_heard (PrintedBetween g.W.Sink.stream) c.args.listener.now c.hear_end.new.self _ _ _ _
    c.hear_end.ensures.hears start since heard list told h in
    prints_end start.teller.style _ _ c.hear_end.new.self (record c.hear_end.new.teller { page = c.write.new.self }) heard c.args.fault _ _
    (prints_page true start.teller.style _ _ c.hear_end.new.self _ _ _ _ _ refl c.write.ensures.takes (rw append-nil at prints))
    c.hear_end.ensures.ended c.write.ensures.quiet ends

pub returns-in_err-write : goal.returns-in_err-write
returns-in_err-write g c =
    let stop = err_from_is_err_and c.from_residual.result c.from_residual.ensures.1 in
    ended g (goal.at.returns-in_err-write g c).After-write _ (inr (c.in_err-write.ensures.failed, rw stop.1 stop.2))

pub returns-in-Some : goal.returns-in-Some
returns-in-Some g c = ended g (goal.at.returns-in-Some g c).After-write _ (inl (c.in_ok-write.ensures.failed, c.in-Some.is))

pub returns-in-None : goal.returns-in-None
returns-in-None g c = ended g (goal.at.returns-in-None g c).After-write _ (inl (c.in_ok-write.ensures.failed, c.in-None.is))
