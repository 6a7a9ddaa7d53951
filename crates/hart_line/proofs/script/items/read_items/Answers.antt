use Rattle.hart_line.proofs.Common.{arith, common_steps, length_push, take_rest, length-append}
use Rattle.std.proofs.Math.Seq.{drop-append_seam}
use Rattle.hart_line.proofs.lemmas.script.Items.{items_begin, reads_all, reads_item, reads_nothing}
use Rattle.hart_line.proofs.script.items.read_items.Goals as goal

pub loop-lead-init : goal.loop-lead-init
loop-lead-init c = grind (arith, common_steps, reads_nothing)

pub loop-lead-preserved : goal.loop-lead-preserved
loop-lead-preserved c =
    let (lead, pushed) = c.in-Some.ensures in
    let reads = reads_item _ _ _ lead.item lead.tail c.loop-lead.invariant.reads lead.begins in
    grind (arith, common_steps, take_rest, drop-append_seam, length-append, length_push, lead.begins.spelled)

pub returns-then-not-is_empty : goal.returns-then-not-is_empty
returns-then-not-is_empty c = λ chars said.
    let (more, are, same) = c.loop-lead.invariant.reads.back chars said.1 in grind (arith, common_steps, items_begin)

pub returns : goal.returns
returns c = grind (arith, common_steps, reads_all)
