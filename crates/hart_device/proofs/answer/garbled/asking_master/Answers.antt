use Rattle.std.proofs.Common.{◌≡◌, arith}
use Rattle.std.proofs.lemmas.Bool.Decides.{nat_tests}
use Rattle.std.proofs.lemmas.Grind.{common_steps}
use Rattle.hart_values.specs.declared.address.Address.TheVariants.{Unique}
use Rattle.hart_device.specs.Identity.{own_numbers}
use Rattle.hart_device.proofs.answer.garbled.asking_master.Goals as goal

pub returns : goal.returns
returns c =
    let own : c.in_ok-master.address ≡ Unique (own_numbers c.args.identity.now) = grind (arith, common_steps) in
    record {
      burst = c.in_ok-master._burst;
      address = _;
      own = rw own at c.in_ok-master.ensures.found;
      head_is = grind (arith, common_steps, nat_tests);
    }
