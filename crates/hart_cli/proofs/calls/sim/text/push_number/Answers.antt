use Rattle.std.proofs.Common.{append_assoc, arith, ◌/◌, ◌%◌}
use Rattle.std.proofs.lemmas.Fmt.{decimal_digit, decimal_step}
use Rattle.std.proofs.lemmas.Grind.{common_steps}
use Rattle.hart_cli.proofs.calls.sim.text.push_number.Goals as goal

pub returns-clause-word : goal.returns-clause-word
returns-clause-word g c =
    let n = c.args.number in
    grind (
      arith,
      common_steps,
      append_assoc,
      decimal_step n,
      decimal_step (n / 10),
      decimal_digit n,
      decimal_digit (n / 10),
      decimal_digit (n / 100),
      decimal_digit (n % 10),
      decimal_digit (n / 10 % 10),
    )
