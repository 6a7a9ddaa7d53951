use Rattle.std.proofs.Common.{◌≡◌, List, ◌∷◌, arith}
use Rattle.hart_frame.proofs.lemmas.Laws.{bodies_are_unambiguous-one_body}
use Rattle.hart_line.specs.declared.line.report.Spoken.{Spoken}
use Rattle.hart_line.specs.world.Spoken.{AreSpoken, SpokenFrame}
use Rattle.hart_line.proofs.lemmas.Laws.{scripts_have_one_last_world-no_fault, scripts_have_one_last_world-one_fault}
use Rattle.hart_line.proofs.lemmas.Laws.{scripts_have_one_last_world-one_world, texts_have_one_script-no_bad_line}
use Rattle.hart_line.proofs.lemmas.Laws.{texts_have_one_script-one_bad_line, texts_have_one_script-one_script}
use Rattle.hart_cli.specs.sim.Sim.{start_with}
use Rattle.hart_line.specs.declared.fault.LineFault.TheVariants as line_faults
use Rattle.hart_cli.proofs.calls.sim.one_simulation.Goals as goal

-- spoken frames are kept in only one way
AreSpoken-one : (frames : List SpokenFrame) (xs ys : List Spoken) → AreSpoken frames xs → AreSpoken frames ys → xs ≡ ys
AreSpoken-one (said ∷ frames) (x ∷ xs) (y ∷ ys) p q =
    grind (arith, bodies_are_unambiguous-one_body said.frame x.bytes y.bytes, AreSpoken-one frames xs ys)
AreSpoken-one _ xs ys p q = grind arith

pub returns-clause-one_text : goal.returns-clause-one_text
returns-clause-one_text c device input xs ys p q =
    let same = texts_have_one_script-one_script input p.events q.events p.script q.script in
    grind (arith, scripts_have_one_last_world-one_world (start_with device) q.events p.led.world q.led.world, AreSpoken-one)

pub returns-clause-one_fault : goal.returns-clause-one_fault
returns-clause-one_fault c device input (line_faults.Undetected number leg) (line_faults.Undetected other another) p q =
    let same = texts_have_one_script-one_script input p.events q.events p.script q.script in
    grind (arith, scripts_have_one_last_world-one_fault (start_with device) q.events number other leg another)
returns-clause-one_fault c device input (line_faults.BadLine number) (line_faults.BadLine other) p q =
    let same = texts_have_one_script-one_bad_line input number other p q in cc
returns-clause-one_fault c device input (line_faults.BadLine number) (line_faults.Undetected other leg) p q =
    absurd (texts_have_one_script-no_bad_line input q.events number q.script p)
returns-clause-one_fault c device input (line_faults.Undetected number leg) (line_faults.BadLine other) p q =
    absurd (texts_have_one_script-no_bad_line input p.events other p.script q)
returns-clause-one_fault c device input _ other p q = grind arith

pub returns-clause-no_fault : goal.returns-clause-no_fault
returns-clause-no_fault c device input text (line_faults.Undetected number leg) p damage =
    let same = texts_have_one_script-one_script input p.events damage.events p.script damage.script in
    grind (arith, scripts_have_one_last_world-no_fault (start_with device) damage.events p.led.world number leg)
returns-clause-no_fault c device input text (line_faults.BadLine number) p bad =
    texts_have_one_script-no_bad_line input p.events number p.script bad
returns-clause-no_fault c device input text _ p bad = grind arith
