use Rattle.std.proofs.Common.{arith}
use Rattle.std.proofs.lemmas.Grind.{common_steps}
use Rattle.hart_text.specs.Items.{MayBegin}
use Rattle.hart_text.proofs.lemmas.Marks.{opens_if}
use Rattle.hart_text.proofs.marks.may_open.Goals as goal

pub returns-else-may_begin-clause-may : goal.returns-else-may_begin-clause-may
returns-else-may_begin-clause-may c =
    let none : MayBegin c.args.text.now → ⊥ = grind (arith, common_steps) in
    opens_if c.args.text.now c.may_begin_date.result c.requires none c.may_begin_date.ensures
