use Rattle.std.proofs.Common.{◌≡◌, ◌≤◌, ◌<◌, ◌/◌, ◌%◌, ◌+◌, ℕ, false, true, List, [], ◌∷◌, Ok, Some, inl, inr, arith, bytes_eq}
use Rattle.std.proofs.Common.{codes, decimal, get_or, length, pos, refl}
use Rattle.std.proofs.lemmas.Bool.Decides.{nat_tests}
use Rattle.std.proofs.lemmas.Fmt.{decimal_digit, decimal_is_IsNumeral, decimal_step}
use Rattle.std.proofs.lemmas.Grind.{common_steps}
use Rattle.std.proofs.lemmas.Int.{ints}
use Rattle.std.proofs.lemmas.Slice.Eq.{bytes_eq-Decides}
use Rattle.std.proofs.lemmas.Str.Parse.{numerals_by_value, tells_all_ascii_digits}
use Rattle.std.specs.Str.{all_ascii_digits}
use Rattle.std.specs.Str.Parse.{digits_value, without_leading_plus}
use Rattle.hex.proofs.HexLemmas.{decode_of-encode_upper}
use Rattle.jiff.proofs.Family.{parse_date-date_text}
use Rattle.jiff.specs.Words.{IsDate, parse_date}
use Rattle.hart_values.proofs.lemmas.Calendar.{IsDate-iff}
use Rattle.hart_values.specs.hart_date.Calendar.{IsCalendarDay}
use Rattle.hart_commands.specs.declared.fields.FieldKind.TheVariants.{Date}
use Rattle.hart_explain.specs.Values.{day_words, two_digits}
use Rattle.hart_explain.specs.Words.{hex_value}
use Rattle.hart_request.specs.Values.{date_value, greatest_of, number_up_to, shown_value, year_byte}
use Rattle.hart_request.proofs.laws.shown_values_are_accepted.Goals as goal

-- a number below a hundred has a digit for its tens and a digit for its ones
tens : (n : ℕ) → n < 100 → two_digits n ≡ (48 + n / 10) ∷ (48 + n % 10) ∷ []
tens n small = rw (decimal_digit (n / 10) (omega (arith, small)), decimal_digit (n % 10) (omega arith))

-- a year of four digits
year_digits : (n : ℕ) → 1000 ≤ n → n < 10000
    → decimal n ≡ (48 + n / 100 / 10) ∷ (48 + n / 100 % 10) ∷ (48 + n % 100 / 10) ∷ (48 + n % 100 % 10) ∷ []
year_digits n from small =
    grind (arith, decimal_step n, decimal_step (n / 10), decimal_step (n / 100), decimal_digit (n / 1000), from, small)

-- a day of the calendar is at most 31
day_small : (day month year : ℕ) → IsCalendarDay day month year → day < 100
day_small day month year is = grind (arith, nat_tests, is.month_from, is.month_to, is.day_to)

-- `jiff` reads the words of a calendar day as this day
day_read : (day month year : ℕ) → year < 256 → IsCalendarDay day month (1900 + year)
    → parse_date (day_words day month year) ≡ Ok (record { year = pos (1900 + year); month = month; day = day })
day_read day month year small is =
    let known : IsDate (pos (1900 + year)) (pos month) (pos day) =
    (IsDate-iff (pos (1900 + year)) (pos month) (pos day) day month (1900 + year) refl refl refl (omega arith)).1 is in
    rw (year_digits (1900 + year) (omega arith) (omega (arith, small)), tens month (omega (arith, is.month_to)))
    (rw (tens day (day_small day month (1900 + year) is))
    (parse_date-date_text (record {
      year = pos (1900 + year);
      month = month;
      day = day;
      year_in = grind (arith, ints, known);
      month_in = grind (arith, ints, known);
      day_in = grind (arith, ints, known);
    })))

-- the words of a calendar day are shown for its bytes
day_shown : (day month year : ℕ) → year < 256 → IsCalendarDay day month (1900 + year)
    → shown_value Date (day ∷ month ∷ year ∷ []) ≡ day_words day month year
day_shown day month year small is =
    grind (arith, nat_tests, is.month_from, is.month_to, is.day_from, is.day_to)

-- the words of a calendar day begin with a digit, so they are not `not set`
not_unset : (day month year : ℕ) → year < 256 → bytes_eq (day_words day month year) (codes "not set") ≡ false
not_unset day month year small =
    grind (arith, common_steps, year_digits (1900 + year), bytes_eq-Decides (day_words day month year) (codes "not set"))

-- the byte of a year from 1900 on
byte_of_year : (year : ℕ) → year < 256 → year_byte (pos (1900 + year)) ≡ Some year
byte_of_year year small = grind (arith, nat_tests)

-- the words of a calendar day give its bytes
day_accepted : (day month year : ℕ) → year < 256 → IsCalendarDay day month (1900 + year)
    → date_value (shown_value Date (day ∷ month ∷ year ∷ [])) ≡ Ok (day ∷ month ∷ year ∷ [])
day_accepted day month year small is =
    let shown = day_shown day month year small is in
    let word = day_words day month year in
    grind (
      arith,
      common_steps,
      shown,
      not_unset day month year small,
      day_read day month year small is,
      byte_of_year year small,
      bytes_eq-Decides word (shown_value Date (day ∷ month ∷ year ∷ [])),
    )

-- three bytes, one by one
in_three : (bytes : List ℕ) → length bytes ≡ 3 → bytes ≡ get_or bytes 0 0 ∷ get_or bytes 1 0 ∷ get_or bytes 2 0 ∷ []
in_three bytes three = grind (arith, common_steps, three)

pub returns-clause-dates : goal.returns-clause-dates
returns-clause-dates c size bytes (three, small, inl unset) = rw unset refl
returns-clause-dates c size bytes (three, small, inr is) =
    rw (in_three bytes three) (day_accepted (get_or bytes 0 0) (get_or bytes 1 0) (get_or bytes 2 0) small is)

-- the digits of a number are read as that number, and have no plus sign before them
digits_read : (number : ℕ) → number < 65536
    → (without_leading_plus (decimal number) ≡ decimal number) × (digits_value 10 (decimal number) ≡ number)
    × (all_ascii_digits (decimal number) ≡ true) × (0 < length (decimal number))
digits_read number small =
    let numeral = decimal_is_IsNumeral number (omega (arith, small)) in (
      grind (arith, common_steps, numeral.0.1, numeral.0.0),
      numeral.1,
      (numerals_by_value (λ ds. all_ascii_digits ds ≡ true) tells_all_ascii_digits).from (decimal number) numeral.0.1,
      numeral.0.0,
    )

-- the digits of a number up to the greatest one write this number
number_accepted : (greatest number : ℕ) → number ≤ greatest → number < 65536 → number_up_to greatest (decimal number) ≡ Some number
number_accepted greatest number fits small =
    let read = digits_read number small in rw (read.0, read.1, read.2) (grind (arith, nat_tests, read.3, fits))

-- the greatest number of a field has at most two bytes
greatest_small : (size : ℕ) → greatest_of size < 65536
greatest_small size = grind (arith, nat_tests)

pub returns-clause-numbers : goal.returns-clause-numbers
returns-clause-numbers c size number fits =
    rw (number_accepted (greatest_of size) number fits (omega (arith, fits, greatest_small size))) refl

pub returns-clause-bytes : goal.returns-clause-bytes
unfolding hex_value
returns-clause-bytes c bytes are few = grind (arith, common_steps, nat_tests, decode_of-encode_upper bytes are)

pub returns-clause-codes : goal.returns-clause-codes
unfolding hex_value
returns-clause-codes c after bytes are some few = grind (arith, common_steps, nat_tests, decode_of-encode_upper bytes are)
