-- What a DateTime's range is in dates (2.1.1.5; 02, (i)): the bits that the grammar takes are those of a kind, a date of the years 1 to 9999 and a time
-- of day, and these are the date and the time that are shown.
use Rattle.std.specs.Prelude.{ℕ, ◌+◌, ◌*◌, ◌/◌, ◌%◌, ◌≤◌, ◌≡◌, refl}
use Rattle.std.proofs.Common.{arith}
use Rattle.calendar.specs.declared.Date.{Date}
use Rattle.calendar.specs.declared.Clock.{Clock}
use Rattle.calendar.specs.Calendar.{leap_year, days_of_year, days_of_month, date_of, clock_of}
use Rattle.calendar.specs.Dates.{total, IsDate, days_before, IsClock, ticks_before}

-- a kind, a date and a time of day whose bits these are
pub record Dated (x : ℕ) : Type 0 where
  pub kind : ℕ
  pub date : Date
  pub clock : Clock
  pub kind_known : kind ≤ 2
  pub is_date : IsDate date
  pub year_most : date.year ≤ 9999
  pub is_clock : IsClock clock
  pub bits : x ≡ kind * 4611686018427387904 + (864000000000 * days_before date + ticks_before clock)

-- ---- what is shown

pub record ShownAs (x : ℕ) (w : Dated x) : Type 0 where
  pub kind_is : x / 4611686018427387904 ≡ w.kind
  pub date_is : date_of (x % 4611686018427387904 / 864000000000) ≡ w.date
  pub clock_is : clock_of (x % 4611686018427387904) ≡ w.clock

-- ---- the two ends

-- the first tick and the last one: the midnight with which the year 1 begins, and 9999-12-31 23:59:59.9999999
pub first_moment : Dated 0
unfolding total days_of_month leap_year
first_moment = record {
  kind = 0;
  date = record { year = 1; month = 1; day = 1 };
  clock = record { hours = 0; minutes = 0; seconds = 0; ticks = 0 };
  kind_known = omega arith;
  is_date = record { year_least = omega arith; month_least = omega arith; month_most = omega arith; day_least = omega arith; day_most = omega arith };
  year_most = omega arith;
  is_clock = record { hours_most = omega arith; minutes_most = omega arith; seconds_most = omega arith; ticks_most = omega arith };
  bits = refl;
}

pub last_moment : Dated 3155378975999999999
unfolding total days_of_year days_of_month leap_year
last_moment = record {
  kind = 0;
  date = record { year = 9999; month = 12; day = 31 };
  clock = record { hours = 23; minutes = 59; seconds = 59; ticks = 9999999 };
  kind_known = omega arith;
  is_date = record { year_least = omega arith; month_least = omega arith; month_most = omega arith; day_least = omega arith; day_most = omega arith };
  year_most = omega arith;
  is_clock = record { hours_most = omega arith; minutes_most = omega arith; seconds_most = omega arith; ticks_most = omega arith };
  bits = refl;
}
