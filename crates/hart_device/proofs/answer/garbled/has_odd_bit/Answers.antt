use Rattle.std.proofs.Common.{arith, take, bit_xor, ap, ◌∙◌}
use Rattle.std.proofs.lemmas.Grind.{common_steps}
use Rattle.std.proofs.lemmas.List.{take_all}
use Rattle.std.proofs.lemmas.Nat.{xor_of_8}
use Rattle.hart_device.specs.answer.Garbled.{has_odd_bit}
use Rattle.hart_device.proofs.lemmas.answer.Garbled.{IsCheck-more, odd_is}
use Rattle.hart_device.proofs.answer.garbled.has_odd_bit.Goals as goal

pub loop-character-preserved : goal.loop-character-preserved
loop-character-preserved c = grind (arith, common_steps, bit_xor, IsCheck-more, xor_of_8)

pub returns : goal.returns
returns c =
    let seen = c.loop-character.invariant in
    odd_is (take c.loop-character.character-index c.args.chars.now) c.loop-character.check seen.check seen.byte
    ∙ ap has_odd_bit (take_all c.loop-character.character-index c.args.chars.now c.loop-character-test.false)
