use Rattle.std.proofs.Common.{arith, []}
use Rattle.hart_text.specs.Item.{Plain}
use Rattle.hart_text.proofs.digits.digit_value.Goals as goal

-- a byte is no digit if `0` followed by this byte is no item
pub returns-in-None : goal.returns-in-None
returns-in-None c = grind (arith, c.in-None.ensures (Plain 48 c.args.byte) [])
