-- What holds of the date of a day number: it is a date of the calendar, as many days as the number come before it, and no other date has so many.
-- Who believes the days of years and months need not believe how the date is found.
use Prim.Native.Nat.{ℕ, zero, suc, ◌+◌, ◌-◌, ◌*◌, ◌%◌, ◌≤◌, ◌<◌}
use Rattle.std.specs.Prelude.{◌≡◌, refl}
use Rattle.calendar.specs.declared.Date.{Date}
use Rattle.calendar.specs.declared.Clock.{Clock}
use Rattle.calendar.specs.Calendar.{leap_year, days_of_year, days_of_month}

-- ---- what a date is, and the days before it

pub record IsDate (d : Date) : Type 0 where
  pub year_least : 1 ≤ d.year
  pub month_least : 1 ≤ d.month
  pub month_most : d.month ≤ 12
  pub day_least : 1 ≤ d.day
  pub day_most : d.day ≤ days_of_month d.year d.month

-- f 1 + f 2 + .. + f n
unfoldable pub total : (ℕ → ℕ) → ℕ → ℕ
total f zero = 0
total f (suc n) = total f n + f (suc n)

-- the days of the years before a date, of the months before it in its year, and of its month before it
abbrev pub days_before : Date → ℕ
days_before d = total days_of_year (d.year - 1) + total (days_of_month d.year) (d.month - 1) + (d.day - 1)

-- days whose numbers are known: the 1st of January of 1970, the last of February of 2000 and the last day that .NET has
abbrev pub Known : Type 0
Known =
    (days_before (record { year = 1970; month = 1; day = 1 }) ≡ 719162)
    × (days_before (record { year = 2000; month = 2; day = 29 }) ≡ 730178)
    × (days_before (record { year = 9999; month = 12; day = 31 }) ≡ 3652058)

pub known : Known
unfolding total days_of_year days_of_month leap_year
known = (refl, refl, refl)

-- ---- the date of a day number

pub record DateOf (n : ℕ) (d : Date) : Type 0 where
  pub is_date : IsDate d
  pub number : days_before d ≡ n

-- ---- the time of day

pub record IsClock (c : Clock) : Type 0 where
  pub hours_most : c.hours < 24
  pub minutes_most : c.minutes < 60
  pub seconds_most : c.seconds < 60
  pub ticks_most : c.ticks < 10000000

-- the ticks of a day before a time of it
abbrev pub ticks_before : Clock → ℕ
ticks_before c = 36000000000 * c.hours + 600000000 * c.minutes + 10000000 * c.seconds + c.ticks

-- the time of day is one, and has the ticks that are no whole day
pub record ClockOf (n : ℕ) (c : Clock) : Type 0 where
  pub is_clock : IsClock c
  pub number : ticks_before c ≡ n % 864000000000
