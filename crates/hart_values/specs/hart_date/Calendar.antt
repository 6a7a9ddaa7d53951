-- Dates in three bytes: the day, the month, and the year minus 1900 (HCF_SPEC-127). Implementation choice: three zeros are the date "not
-- set", and any other date must be a day of the calendar.
use Rattle.std.specs.Prelude.{◌≡◌, ℕ, ◌+◌, ◌-◌, ◌%◌, ◌<◌, ◌≤◌, ◌⊎◌, List, [], ◌∷◌, length, slice_index}
use Rattle.std.specs.Prelude.{Bool, false, not, ◌==◌, ◌&&◌, ◌||◌, nat_le, nat_lt, if◌then◌else◌}

-- A year is a leap year if it is divisible by 4 but not by 100, or if it is divisible by 400.
abbrev pub is_leap_year : ℕ → Bool
is_leap_year year = ((year % 4 == 0) && not (year % 100 == 0)) || (year % 400 == 0)

-- The length of February: 29 days in a leap year, and 28 days otherwise.
abbrev pub february_length : ℕ → ℕ
february_length year = if is_leap_year year then 29 else 28

-- The lengths of the months of a year, from January to December.
abbrev pub month_lengths : ℕ → List ℕ
month_lengths year = 31 ∷ february_length year ∷ 31 ∷ 30 ∷ 31 ∷ 30 ∷ 31 ∷ 31 ∷ 30 ∷ 31 ∷ 30 ∷ 31 ∷ []

-- The calendar has this day: the month is from 1 to 12, and the day is from 1 to the length of the month.
pub record IsCalendarDay (day month year : ℕ) : Type 0 where
  pub month_from : 1 ≤ month
  pub month_to : month ≤ 12
  pub day_from : 1 ≤ day
  pub day_to : day ≤ slice_index (month_lengths year) (month - 1)

-- The date "not set" is three zero bytes.
abbrev pub not_set : List ℕ
not_set = 0 ∷ 0 ∷ 0 ∷ []

-- Three bytes are a date if they are "not set" or name a calendar day of the years 1900 to 2155.
abbrev pub IsDateBytes : List ℕ → Type 0
IsDateBytes bytes =
    (length bytes ≡ 3)
    × (slice_index bytes 2 < 256)
    × ((bytes ≡ not_set)
    ⊎ IsCalendarDay (slice_index bytes 0) (slice_index bytes 1) (1900 + slice_index bytes 2))

-- Whether the calendar has this day.
abbrev pub is_calendar_day : (day month year : ℕ) → Bool
is_calendar_day day month year =
    nat_le 1 month && nat_le month 12 && nat_le 1 day && nat_le day (slice_index (month_lengths year) (month - 1))

-- Whether bytes are a date.
abbrev pub is_date : List ℕ → Bool
is_date (day ∷ month ∷ year ∷ []) =
    nat_lt year 256 && (((day == 0) && (month == 0) && (year == 0)) || is_calendar_day day month (1900 + year))
is_date _ = false
