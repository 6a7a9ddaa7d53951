use Rattle.std.proofs.Common.{◌≡◌, length, map}
use Rattle.hart_commands.specs.StatusBits.{seen_bit}
use Rattle.hart_explain.specs.Status.{set_names}
use Rattle.hart_explain.proofs.status.first_set.Given as goal

abbrev pub invariant-loop-bit : goal.invariant-loop-bit
invariant-loop-bit l = set_names l.byte (map seen_bit l.rest) ≡ set_names l.byte (map seen_bit l.bits)

abbrev pub decreases-loop-bit : goal.decreases-loop-bit
decreases-loop-bit l = length l.rest
