use Rattle.std.proofs.Common.{◌≡◌, arith, true}
use Rattle.std.proofs.lemmas.Bool.Decides.{nat_tests}
use Rattle.std.proofs.lemmas.Grind.{common_steps}
use Rattle.std.proofs.lemmas.Str.Parse.{numerals_by_value, tells_all_ascii_digits}
use Rattle.std.specs.Str.{all_ascii_digits}
use Rattle.hart_request.proofs.values.number_up_to.Goals as goal

pub returns-in_err-number : goal.returns-in_err-number
returns-in_err-number c =
    grind (arith, common_steps, numerals_by_value (λ ds. all_ascii_digits ds ≡ true) tells_all_ascii_digits, nat_tests)

pub returns : goal.returns
returns c = grind (arith, common_steps, numerals_by_value (λ ds. all_ascii_digits ds ≡ true) tells_all_ascii_digits, nat_tests)
