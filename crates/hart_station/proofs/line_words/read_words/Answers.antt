use Rattle.std.proofs.Common.{arith}
use Rattle.std.proofs.lemmas.Grind.{common_steps}
use Rattle.std.proofs.lemmas.Result.{err_from_is_err_and}
use Rattle.hart_station.proofs.lemmas.LineWords.{reads_all, reads_bad_part, reads_none, reads_part}
use Rattle.hart_station.proofs.line_words.read_words.Goals as goal

pub loop-rest-init : goal.loop-rest-init
loop-rest-init c =
    (c.separator_of-separator.ensures, reads_none c.args.line.now _ (grind (arith, common_steps, c.new-words.ensures)))

pub loop-rest-preserved : goal.loop-rest-preserved
loop-rest-preserved c = (
  c.loop-rest.invariant.0,
  reads_part c.args.line.now _ _ c.in-Some.text.now _ _ (rw c.in-Some.is at c.loop-rest.invariant.1)
      (rw c.loop-rest.invariant.0 at c.first_part.ensures) c.in_ok-push_part.ensures,
)

pub returns-in_err-push_part : goal.returns-in_err-push_part
returns-in_err-push_part c =
    let bad = err_from_is_err_and c.from_residual.result c.from_residual.ensures.1 in
    rw (bad.1, bad.2)
    (reads_bad_part c.args.line.now _ c.in-Some.text.now _ _ _ (rw c.in-Some.is at c.loop-rest.invariant.1)
    (rw c.loop-rest.invariant.0 at c.first_part.ensures) c.in_err-push_part.ensures)

pub returns : goal.returns
returns c = reads_all c.args.line.now _ (rw c.in_default.is at c.loop-rest.invariant.1)
