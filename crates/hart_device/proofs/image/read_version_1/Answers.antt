use Rattle.std.proofs.Common.{◌≡◌, ◌≢◌, ℕ, List, ◌++◌, length, refl, sym, ◌∙◌, drop, replicate, arith}
use Rattle.std.proofs.lemmas.Grind.{common_steps}
use Rattle.hart_commands.specs.declared.register.Register.{Register}
use Rattle.hart_commands.specs.declared.register.Register.TheVariants.{LongTag}
use Rattle.hart_device.specs.Image.{registers_of_version_1}
use Rattle.hart_device.specs.Registers.{standing_for}
use Rattle.hart_device.proofs.lemmas.Image.{bad_field, before_others, in_version_1, kept_or, no_long_tag, read_is, refused_or}
use Rattle.hart_device.proofs.image.read_version_1.Goals as goal

pub returns-then-rest-clause-refused : goal.returns-then-rest-clause-refused
returns-then-rest-clause-refused c = (registers_of_version_1, refl, λ same. absurd (c.if-rest.true (omega (arith, same))))

-- The bytes of every register except the long tag are among the first 50, so they do not depend on the bytes that follow.
stands_before : (prefix others : List ℕ) → length prefix ≡ 50 → (register : Register) → register ≢ LongTag
    → standing_for register (prefix ++ others) ≡ standing_for register prefix
stands_before prefix others len register differ = grind (arith, common_steps, before_others)

-- For each register except the long tag, the array holds the same bytes as the image.
is_read : (c : goal.After-ok_or) (register : Register) → register ≢ LongTag
    → standing_for register c.set_long_tag.new.self.bytes ≡ standing_for register c.split_at.result.0.now
is_read c register differ =
    c.set_long_tag.ensures.others register differ
    ∙ rw c.copy_from_slice.ensures.after (stands_before _ (drop 50 (replicate 82 0)) c.split_at.ensures.front_len register differ)

pub returns-clause-refused : goal.returns-clause-refused
returns-clause-refused c =
    let split = c.split_at.ensures in
    rw (c.ok_or.ensures.value, split.by_index.0) (refused_or _ c.read_parts.result _ c.read_parts.ensures.refused
    (bad_field 1 registers_of_version_1 refl c.set_long_tag.new.self.bytes c.split_at.result.0.now c.split_at.result.1.now split.front_len
    (omega (arith, split.back_len, c.if-rest.false)) in_version_1
    (λ register differ. stands_before _ _ split.front_len register differ ∙ sym (is_read c register differ))))

pub returns-clause-kept : goal.returns-clause-kept
returns-clause-kept c =
    let read = c.read_parts.ensures in
    let array = c.set_long_tag.new.self.bytes in
    rw (c.ok_or.ensures.value, c.split_at.ensures.by_index.0)
    (kept_or _ _ _ _ c.read_parts.result _ read.registers read.valid read.ending (λ parts contents valid ends.
    read_is 1 _ refl parts array _ _ c.split_at.ensures.front_len (λ register there. is_read c register (no_long_tag register there))
    (λ not_listed. c.set_long_tag.ensures.set) contents valid ends))
