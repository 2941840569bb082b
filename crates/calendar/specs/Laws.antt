-- One law for each way that the code ends.
use Rattle.std.specs.Prelude.{ℕ, zero, suc, ◌+◌, ◌-◌, ◌≤◌, ◌<◌, ◌≡◌, refl, Bool, true, false}
use Rattle.std.proofs.Common.{arith, lt-ltb, le-ltb, le-leb}
use Rattle.std.proofs.lemmas.Bool.{lt-leb}
use Rattle.format.specs.Bytes.{pick}
use Rattle.calendar.specs.Calendar.{leap_year, days_of_year, days_of_month, year_from, year_of, month_from, month_of}

-- ---- years and months

pub year_least : (year : ℕ) → 365 ≤ days_of_year year
unfolding days_of_year
year_least year = go (leap_year year)
  where
    go : (t : Bool) → 365 ≤ pick t 366 365
    go true = omega arith
    go false = omega arith

pub year_most : (year : ℕ) → days_of_year year ≤ 366
unfolding days_of_year
year_most year = go (leap_year year)
  where
    go : (t : Bool) → pick t 366 365 ≤ 366
    go true = omega arith
    go false = omega arith

-- ---- the loop over years: the day falls in this year, or the year is passed, or it is the last

pub year_begins : (day : ℕ) → year_of day ≡ year_from 59999 1 day
unfolding year_of
year_begins day = refl

pub year_here : (k year left : ℕ) → 0 < k → left < days_of_year year → year_from k year left ≡ record { year = year; day = left + 1 }
unfolding year_from
year_here zero year left h g = absurd (omega arith)
year_here (suc k) year left h g = rw (lt-ltb left (days_of_year year) g)

pub year_passed : (k j year left days : ℕ) → k ≡ suc j → days ≡ days_of_year year → days ≤ left → year_from k year left ≡ year_from j (year + 1) (left - days)
unfolding year_from
year_passed k j year left days e d h = rw (e, d) (let g : days_of_year year ≤ left = omega arith in rw (le-ltb left (days_of_year year) g))

pub year_last : (k year left : ℕ) → k ≤ 0 → year_from k year left ≡ record { year = year; day = left + 1 }
unfolding year_from
year_last zero year left h = refl
year_last (suc k) year left h = absurd (omega arith)

-- closes what the loop leaves
pub ruleset years = (year_least, year_begins, year_here, year_passed, year_last)

-- ---- the loop over months, likewise

pub month_begins : (year day : ℕ) → month_of year day ≡ month_from 11 year 1 day
unfolding month_of
month_begins year day = refl

pub month_here : (k year month left : ℕ) → 0 < k → left ≤ days_of_month year month
    → month_from k year month left ≡ record { year = year; month = month; day = left }
unfolding month_from
month_here zero year month left h g = absurd (omega arith)
month_here (suc k) year month left h g = rw (le-leb left (days_of_month year month) g)

pub month_passed : (k j year month left days : ℕ) → k ≡ suc j → days ≡ days_of_month year month → days < left
    → month_from k year month left ≡ month_from j year (month + 1) (left - days)
unfolding month_from
month_passed k j year month left days e d h =
    rw (e, d) (let g : days_of_month year month < left = omega arith in rw (lt-leb left (days_of_month year month) g))

pub month_last : (k year month left : ℕ) → k ≤ 0 → month_from k year month left ≡ record { year = year; month = month; day = left }
unfolding month_from
month_last zero year month left h = refl
month_last (suc k) year month left h = absurd (omega arith)

-- closes what the loop leaves
pub ruleset months = (month_begins, month_here, month_passed, month_last)
