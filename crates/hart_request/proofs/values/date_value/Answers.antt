use Rattle.std.proofs.Common.{◌≡◌, ◌<◌, ◌+◌, ◌≤ℤ◌, ◌-ℤ◌, ℕ, ℤ, pos, negsuc, true, Some, arith, refl, unsigned_abs, w8, w16, to_z, of_z}
use Rattle.std.proofs.lemmas.Bool.Decides.{nat_tests}
use Rattle.std.proofs.lemmas.Grind.{common_steps}
use Rattle.std.proofs.lemmas.Int.{ints, to_z_pos}
use Rattle.std.specs.Int.{IsInRange}
use Rattle.jiff.specs.Words.{days_in_month, IsDate, IsYear}
use Rattle.hart_values.specs.hart_date.Calendar.{IsCalendarDay, is_calendar_day}
use Rattle.hart_values.proofs.lemmas.Calendar.{IsDate-iff}
use Rattle.hart_request.specs.Values.{year_byte}
use Rattle.hart_request.proofs.values.date_value.Goals as goal

-- the byte for a number of jiff
abbrev byte_of : ℤ → ℕ
byte_of number = unsigned_abs (to_z w8 (of_z w8 number))

-- the byte for a year of jiff: the year minus 1900
abbrev count_of : ℤ → ℕ
count_of year = unsigned_abs (to_z w16 (of_z w16 (to_z w16 (of_z w16 year) -ℤ pos 1900)))

-- a number below 128 becomes the byte of the same value
byte_back : (number : ℤ) (n : ℕ) → n < 128 → number ≡ pos n → byte_of number ≡ n
byte_back number n small e = grind (arith, ints, to_z_pos)

-- a year from 1900 to 2155 has the byte of its count
counted : (year : ℤ) → pos 1900 ≤ℤ year → year ≤ℤ pos 2155
    → (year ≡ pos (1900 + count_of year)) × (count_of year < 256) × (year_byte year ≡ Some (count_of year))
counted (pos n) from to = (grind (arith, ints, to_z_pos), grind (arith, ints, to_z_pos), grind (arith, ints, nat_tests, to_z_pos))
counted (negsuc n) from to = absurd (grind (arith, ints))

-- a day of the years 1900 to 2155 that jiff has is a calendar day too, and its day, month and year become the bytes of that day
jiff_day : (year : ℤ) (month day : ℕ) (year_given month_given day_given : ℤ) → IsYear year → IsInRange 1 12 month
    → IsInRange 1 (days_in_month year month) day → pos 1900 ≤ℤ year → year ≤ℤ pos 2155
    → year_given ≡ year → month_given ≡ pos month → day_given ≡ pos day
    → (is_calendar_day (byte_of day_given) (byte_of month_given) (1900 + count_of year_given) ≡ true)
    × (byte_of day_given ≡ day) × (byte_of month_given ≡ month) × (year_byte year ≡ Some (count_of year_given))
jiff_day year month day year_given month_given day_given known in_year in_month from to year_is month_is day_is =
    let count = counted year from to in
    let m = byte_back month_given month (grind (arith, ints)) month_is in
    let d = byte_back day_given day (grind (arith, ints)) day_is in
    let jiff : IsDate year (pos month) (pos day) = grind (arith, ints, known, in_year, in_month) in
    let is : IsCalendarDay day month (1900 + count_of year) =
    (IsDate-iff year (pos month) (pos day) day month (1900 + count_of year) count.0 refl refl (omega (arith, count.1))).0 jiff in
    (rw (d, m, year_is) (grind (arith, nat_tests, is.month_from, is.month_to, is.day_from, is.day_to)), d, m, rw year_is count.2)

pub day_value-requires : goal.day_value-requires
day_value-requires c =
    let date = c.in-Ok.date in
    let is = jiff_day date.year date.month date.day c.year-year.result c.month.result c.day.result date.year_in date.month_in date.day_in
    (grind (arith, ints)) (grind (arith, ints)) c.year-year.ensures c.month.ensures c.day.ensures in
    is.0

pub returns : goal.returns
returns c =
    let date = c.in-Ok.date in
    let is = jiff_day date.year date.month date.day c.year-year.result c.month.result c.day.result date.year_in date.month_in date.day_in
    (grind (arith, ints)) (grind (arith, ints)) c.year-year.ensures c.month.ensures c.day.ensures in
    grind (arith, common_steps, is.1, is.2, is.3)
