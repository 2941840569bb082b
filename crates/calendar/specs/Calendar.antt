-- The Gregorian calendar, which is taken to hold from the year 1 on, and the time of day.
use Rattle.std.specs.Prelude.{ℕ, zero, suc, ◌+◌, ◌-◌, ◌/◌, ◌%◌, Bool, true, false, ◌||◌, ltb, leb, eqb}
use Rattle.format.specs.Bytes.{pick}
use Rattle.calendar.specs.declared.DayOfYear.{DayOfYear}
use Rattle.calendar.specs.declared.Date.{Date}
use Rattle.calendar.specs.declared.Clock.{Clock}

-- ---- years and months

-- every fourth year is a leap year, but of the years that end a century only every fourth
unfoldable pub leap_year : ℕ → Bool
leap_year year = pick (eqb (year % 400) 0) true (pick (eqb (year % 100) 0) false (eqb (year % 4) 0))

unfoldable pub days_of_year : ℕ → ℕ
days_of_year year = pick (leap_year year) 366 365

-- February has 28 days, in a leap year 29; April, June, September and November have 30; the others have 31
unfoldable pub days_of_month : ℕ → ℕ → ℕ
days_of_month year month =
    pick (eqb month 2) (pick (leap_year year) 29 28)
    (pick (eqb month 4 || (eqb month 6 || (eqb month 9 || eqb month 11))) 30 31)

-- ---- the date of a day number: day 0 is the 1st of January of the year 1

-- `left` days after the 1st of January of a year: a day of that year, or of a later one, of which k are looked at
unfoldable pub year_from : ℕ → ℕ → ℕ → DayOfYear
year_from zero year left = record { year = year; day = left + 1 }
year_from (suc k) year left =
    pick (ltb left (days_of_year year)) (record { year = year; day = left + 1 })
    (year_from k (year + 1) (left - days_of_year year))

-- the year of a day number, and which day of that year it is; 60,000 is the last year
unfoldable pub year_of : ℕ → DayOfYear
year_of day = year_from 59999 1 day

-- the day `left` counted from the start of a month: a day of that month, or of a later one, of which k are looked at
unfoldable pub month_from : ℕ → ℕ → ℕ → ℕ → Date
month_from zero year month left = record { year = year; month = month; day = left }
month_from (suc k) year month left =
    pick (leb left (days_of_month year month)) (record { year = year; month = month; day = left })
    (month_from k year (month + 1) (left - days_of_month year month))

-- the date of a day of a year
unfoldable pub month_of : ℕ → ℕ → Date
month_of year day = month_from 11 year 1 day

unfoldable pub date_of : ℕ → Date
date_of day = month_of (year_of day).year (year_of day).day

-- ---- the time of day

-- a second has 10,000,000 ticks, a minute 60 seconds, an hour 60 minutes, a day 24 hours
unfoldable pub clock_of : ℕ → Clock
clock_of ticks = record {
  hours = ticks / 36000000000 % 24;
  minutes = ticks / 600000000 % 60;
  seconds = ticks / 10000000 % 60;
  ticks = ticks % 10000000;
}
