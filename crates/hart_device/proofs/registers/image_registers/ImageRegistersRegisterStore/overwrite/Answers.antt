use Rattle.std.proofs.Common.{ℕ, List, refl, arith, ap, sym, option_map, ◌∙◌}
use Rattle.std.proofs.lemmas.Bool.Decides.{nat_tests}
use Rattle.hart_commands.specs.Registers.{named_in}
use Rattle.hart_device.proofs.lemmas.Registers.{all_written, one_more}
use Rattle.hart_device.proofs.registers.image_registers.ImageRegistersRegisterStore.overwrite.Goals.{in-Some, in_default}
use Rattle.hart_device.proofs.registers.image_registers.ImageRegistersRegisterStore.overwrite.Goals as goal

pub returns : goal.returns
returns c = all_written (named_in c.args.overwrite.now) c.args.self.now.bytes c.loop-register.self.bytes c.loop-register.register-index
    c.loop-register-test.false c.loop-register.invariant

pub loop-register-preserved : goal.loop-register-preserved
loop-register-preserved c =
    let place = c.loop-register.register-index in
    let more = λ (new : List ℕ). one_more (named_in c.args.overwrite.now) c.args.self.now.bytes c.loop-register.self.bytes new place
    c.loop-register-test.true in
    elim c.match-get.branch [
      | in-Some w ↦
          let named = sym c.get.ensures.named ∙ ap (option_map (λ bytes. bytes.now)) w.in-Some.is in
          rw w.self-is (more w.write.new.self.bytes (rw named w.write.ensures.written) w.write.ensures.others c.loop-register.invariant)
      | in_default w ↦
          let named = sym c.get.ensures.named ∙ ap (option_map (λ bytes. bytes.now)) w.in_default.is in
          rw w.self-is (more c.loop-register.self.bytes
          (grind (arith, nat_tests, named, c.loop-register.invariant place c.loop-register-test.true)) (λ other differ. refl)
          c.loop-register.invariant)
    ]
