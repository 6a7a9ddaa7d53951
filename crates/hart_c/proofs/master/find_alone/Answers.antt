use Rattle.std.proofs.Common.{◌≡◌, ◌≤◌, arith, refl}
use Rattle.std.proofs.lemmas.Grind.{common_steps}
use Rattle.hart_frame.specs.declared.scan.first.LoneFrame.TheVariants.{NoFrame, Several}
use Rattle.hart_c.proofs.Shown.{finds_of, found_none, found_one, found_several}
use Rattle.hart_c.proofs.master.find_alone.Goals as goal

pub returns-then-count-eq0-clause-none : goal.returns-then-count-eq0-clause-none
returns-then-count-eq0-clause-none c id address request =
    let finds = finds_of _ _ c.hart_find-count.new.frames c.hart_find-count.result c.requires c.hart_find-count.ensures in
    let none : c.hart_find-count.result.count ≡ 0 = grind (arith, common_steps, c.if-count-eq0.true) in
    (NoFrame, found_none _ _ c.hart_find-count.new.frames c.hart_find-count.result refl finds none, refl)

pub returns-then-count-gt1-clause-none : goal.returns-then-count-gt1-clause-none
returns-then-count-gt1-clause-none c id address request =
    let finds = finds_of _ _ c.hart_find-count.new.frames c.hart_find-count.result c.requires c.hart_find-count.ensures in
    let two : 2 ≤ c.hart_find-count.result.count = grind (arith, common_steps, c.if-count-gt1.true) in
    (Several, found_several _ _ c.hart_find-count.new.frames c.hart_find-count.result finds two, refl)

pub returns-clause-alone : goal.returns-clause-alone
returns-clause-alone c =
    let finds = finds_of _ _ c.hart_find-count.new.frames c.hart_find-count.result c.requires c.hart_find-count.ensures in
    let one : c.hart_find-count.result.count ≡ 1 = grind (arith, common_steps, c.if-count-eq0.false, c.if-count-gt1.false) in
    (found_one _ _ c.hart_find-count.new.frames c.hart_find-count.result _ refl finds one).0

pub returns-clause-tidy : goal.returns-clause-tidy
returns-clause-tidy c =
    let finds = finds_of _ _ c.hart_find-count.new.frames c.hart_find-count.result c.requires c.hart_find-count.ensures in
    let one : c.hart_find-count.result.count ≡ 1 = grind (arith, common_steps, c.if-count-eq0.false, c.if-count-gt1.false) in
    let shown = found_one _ _ c.hart_find-count.new.frames c.hart_find-count.result _ refl finds one in (shown.1, shown.2)
