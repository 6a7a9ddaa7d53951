use Rattle.std.proofs.Common.{refl, ap, arith}
use Rattle.std.proofs.lemmas.Grind.{common_steps}
use Rattle.hart_commands.specs.Registers.{registers}
use Rattle.hart_commands.specs.declared.register.Register.TheVariants.{LongTag}
use Rattle.hart_commands.proofs.lemmas.Laws.{all_registers_are_listed_once-every}
use Rattle.hart_device.specs.Registers.{standing_for}
use Rattle.hart_device.proofs.lemmas.Image.{bad_field, before_others, kept_or, read_is, refused_or}
use Rattle.hart_device.proofs.image.read_version_2.Goals as goal

pub returns-then-rest-clause-refused : goal.returns-then-rest-clause-refused
returns-then-rest-clause-refused c = (registers, refl, λ same. absurd (c.if-rest.true (omega (arith, same))))

pub returns-clause-refused : goal.returns-clause-refused
returns-clause-refused c =
    let split = c.split_at.ensures in
    rw (c.ok_or.ensures.value, split.by_index.0) (refused_or _ c.read_parts.result _ c.read_parts.ensures.refused
    (bad_field 2 registers refl c.copy_from_slice.new.self c.split_at.result.0.now c.split_at.result.1.now split.front_len
    (omega (arith, split.back_len, c.if-rest.false)) (λ register differ. all_registers_are_listed_once-every register)
    (grind (arith, common_steps, before_others, split.front_len))))

pub returns-clause-kept : goal.returns-clause-kept
returns-clause-kept c =
    let read = c.read_parts.ensures in
    rw (c.ok_or.ensures.value, c.split_at.ensures.by_index.0)
    (kept_or _ _ _ _ c.read_parts.result _ read.registers read.valid read.ending (λ parts contents valid ends.
    read_is 2 registers refl parts c.copy_from_slice.new.self c.split_at.result.0.now c.split_at.result.1.now
    c.split_at.ensures.front_len (λ register there. ap (standing_for register) c.copy_from_slice.ensures.after)
    (λ not_listed. absurd (not_listed (all_registers_are_listed_once-every LongTag))) contents valid ends))
