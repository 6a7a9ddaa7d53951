use Rattle.std.proofs.Common.{◌∙◌, Bool, ap}
use Rattle.hart_device.specs.Bits.{bit_if}
use Rattle.hart_device.proofs.lemmas.answer.Garbled.{fault_found}
use Rattle.hart_device.proofs.answer.garbled.fault_if.Goals as goal

pub returns : goal.returns
returns c = λ bit is.
    c.bit_if.ensures
    ∙ ap (λ (holds : Bool). bit_if holds c.args.fault) (c.has_fault.ensures ∙ fault_found c.args.chars.now c.args.fault bit is)
