use Rattle.std.proofs.Common.{◌+◌, arith}
use Rattle.hart_values.proofs.lemmas.Calendar.{IsDate-iff, passed_byte, passed_year}
use Rattle.hart_values.proofs.hart_date.is_calendar_day.Goals as goal

pub returns-in-Ok-Ok : goal.returns-in-Ok-Ok
returns-in-Ok-Ok c =
    let year = passed_year c.from.result c.args.year (omega arith) c.from.ensures in
    let month = passed_byte c.in-Ok-Ok.month c.args.month c.in-Ok-Ok.ensures.0 c.in-Ok-Ok.ensures.1 in
    let day = passed_byte c.in-Ok-Ok.day c.args.day c.in-Ok-Ok.ensures'.0 c.in-Ok-Ok.ensures'.1 in
    let same = IsDate-iff _ _ _ c.args.day c.args.month (1900 + c.args.year) year month day (omega arith) in grind arith
