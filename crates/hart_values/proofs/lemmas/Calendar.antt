-- The calendar of `jiff` has the same days as the calendar of `IsCalendarDay`.
use Rattle.std.proofs.Common.{◌≡◌, ℕ, ◌+◌, ◌-◌, ◌<◌, ◌≤◌, get_or, arith, ℤ, pos, ◌+ℤ◌, FitsSigned, w8, w16, to_z, of_z, ◌↔◌}
use Rattle.std.proofs.lemmas.Bool.Decides.{nat_tests}
use Rattle.std.proofs.lemmas.Int.{ints, to_z-of_z, to_z_pos}
use Rattle.jiff.specs.Words.{IsDate, days_in_month}
use Rattle.hart_values.specs.hart_date.Calendar.{IsCalendarDay, month_lengths}

-- a month has the same length in `month_lengths` and in `jiff`
month_lengths-jiff : (year month : ℕ) → 1 ≤ month → month ≤ 12
    → get_or (month_lengths year) (month - 1) 0 ≡ days_in_month (pos year) month
month_lengths-jiff year month from to = grind (arith, nat_tests)

-- `jiff` has a date exactly if `IsCalendarDay` is true for its day, month and year
pub IsDate-iff : (y m d : ℤ) (day month year : ℕ) → y ≡ pos year → m ≡ pos month → d ≡ pos day → year ≤ 9999
    → IsDate y m d ↔ IsCalendarDay day month year
IsDate-iff y m d day month year same_year same_month same_day small = grind (arith, ints, month_lengths-jiff)

-- a number that fits in a signed byte is unchanged when it is passed as a signed byte
pub passed_byte : (z : ℤ) (n : ℕ) → FitsSigned w8 (pos n) → z ≡ pos n → to_z w8 (of_z w8 z) ≡ pos n
passed_byte z n fits e = rw e (to_z-of_z w8 (pos n) fits)

-- the year 1900 + `year` fits in a signed number of 16 bits, so it is unchanged when it is passed as such a number
pub passed_year : (z : ℤ) (year : ℕ) → year < 256 → z ≡ pos year
    → to_z w16 (of_z w16 (pos 1900 +ℤ to_z w16 (of_z w16 z))) ≡ pos (1900 + year)
passed_year z year small e = grind (arith, ints, to_z_pos)
