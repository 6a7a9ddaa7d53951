use Rattle.std.proofs.Common.{arith}
use Rattle.hart_device.proofs.lemmas.Registers.{same_contents, bytes_in-contents_by}
use Rattle.hart_device.proofs.laws.overwrites_absorb.Goals as goal

pub returns : goal.returns
returns c = λ first other old. same_contents _ _ (λ register. grind (arith, bytes_in-contents_by))
