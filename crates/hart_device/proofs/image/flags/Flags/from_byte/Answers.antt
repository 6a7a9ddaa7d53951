use Rattle.std.proofs.Common.{arith}
use Rattle.std.proofs.lemmas.Bool.Decides.{nat_tests}
use Rattle.std.proofs.lemmas.Nat.Bits.{and_pow}
use Rattle.hart_device.proofs.image.flags.Flags.from_byte.Goals as goal

pub returns-clause-kept : goal.returns-clause-kept
returns-clause-kept c = grind (arith, nat_tests, and_pow c.args.byte 0, and_pow c.args.byte 1, and_pow c.args.byte 2, c.if-byte.false)
