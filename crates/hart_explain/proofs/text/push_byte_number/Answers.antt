use Rattle.std.proofs.Common.{◌/◌, ◌%◌, arith}
use Rattle.std.proofs.lemmas.Fmt.{decimal_digit, decimal_step}
use Rattle.std.proofs.lemmas.Grind.{common_steps}
use Rattle.hart_explain.proofs.text.push_byte_number.Goals as goal

pub returns-then-number-ge100-clause-number : goal.returns-then-number-ge100-clause-number
returns-then-number-ge100-clause-number c =
    let n = c.args.number in
    grind (arith, common_steps, decimal_step n, decimal_step (n / 10), decimal_digit (n / 100))

pub returns-then-number-ge100-clause-few : goal.returns-then-number-ge100-clause-few
returns-then-number-ge100-clause-few c =
    let n = c.args.number in
    grind (arith, common_steps, decimal_step n, decimal_step (n / 10), decimal_digit (n / 100))

pub returns-then-number-ge10-clause-number : goal.returns-then-number-ge10-clause-number
returns-then-number-ge10-clause-number c =
    let n = c.args.number in grind (arith, common_steps, decimal_step n, decimal_digit (n / 10))

pub returns-then-number-ge10-clause-few : goal.returns-then-number-ge10-clause-few
returns-then-number-ge10-clause-few c =
    let n = c.args.number in grind (arith, common_steps, decimal_step n, decimal_digit (n / 10))

pub returns-else-number-ge10-clause-number : goal.returns-else-number-ge10-clause-number
returns-else-number-ge10-clause-number c = grind (arith, common_steps, decimal_digit c.args.number)

pub returns-else-number-ge10-clause-few : goal.returns-else-number-ge10-clause-few
returns-else-number-ge10-clause-few c = grind (arith, common_steps, decimal_digit c.args.number)
