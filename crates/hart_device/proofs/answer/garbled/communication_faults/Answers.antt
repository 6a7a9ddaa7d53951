use Rattle.std.proofs.Common.{refl, arith}
use Rattle.hart_device.proofs.answer.garbled.communication_faults.Goals as goal

pub unwrap-requires : goal.unwrap-requires
unwrap-requires c =
    grind (arith, c.fault_if.ensures 6 refl, c.fault_if-2.ensures 5 refl, c.fault_if-3.ensures 4 refl, c.fault_if-4.ensures 1 refl)

pub returns : goal.returns
returns c =
    grind (arith, c.fault_if.ensures 6 refl, c.fault_if-2.ensures 5 refl, c.fault_if-3.ensures 4 refl, c.fault_if-4.ensures 1 refl)
