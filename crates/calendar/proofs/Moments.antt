-- What a DateTime's range is in dates (2.1.1.5; 02, (i)): the bits that the grammar takes are those of a kind, a date of the years 1 to 9999 and a time
-- of day, and these are the date and the time that are shown.
use Rattle.std.specs.Prelude.{ℕ, ◌+◌, ◌-◌, ◌*◌, ◌/◌, ◌%◌, ◌≤◌, ◌<◌, ◌≡◌, refl, ◌↔◌}
use Rattle.std.proofs.Common.{arith}
use Rattle.std.proofs.Math.Decide.{dec_le}
use Rattle.format.specs.Grammar.{Moment}
use Rattle.calendar.specs.declared.Date.{Date}
use Rattle.calendar.specs.declared.Clock.{Clock}
use Rattle.calendar.specs.Calendar.{leap_year, days_of_year, date_of, clock_of}
use Rattle.calendar.specs.Dates.{total, IsDate, days_before, IsClock, ticks_before}
use Rattle.calendar.specs.Moments.{Dated, ShownAs}
use Rattle.calendar.proofs.Dates.{total_more, total_grows, within_year, date_of_day, date_again, clock_of_ticks}

-- ---- the days of the years 1 to 9999

days_in_all : total days_of_year 9999 ≡ 3652059
unfolding total days_of_year leap_year
days_in_all = refl

-- a date of these years has its day number among them
days_most : (d : Date) → IsDate d → d.year ≤ 9999 → days_before d < 3652059
days_most d i h =
    omega (arith, within_year d i, total_more days_of_year d.year i.year_least, total_grows days_of_year d.year 9999 h, days_in_all)

-- and no other date has
year_most : (d : Date) → days_before d < 3652059 → d.year ≤ 9999
year_most d h = go (dec_le d.year 9999)
  where
    go : Dec (d.year ≤ 9999) → d.year ≤ 9999
    go (yes g) = g
    go (no g) = absurd (omega (arith, total_grows days_of_year 9999 (d.year - 1) (omega arith), days_in_all))

clock_most : (c : Clock) → IsClock c → ticks_before c < 864000000000
clock_most c i = omega (arith, i.hours_most, i.minutes_most, i.seconds_most, i.ticks_most)

-- ---- exactly these

-- for every number: the grammar takes it as a DateTime exactly when it is a kind, a date of these years and a time of day
pub dated_exactly : (x : ℕ) → Moment x ↔ Dated x
dated_exactly x = (there, back)
  where
    there : Moment x → Dated x
    there w =
        let o = date_of_day (w.ticks / 864000000000) (omega (arith, w.ticks_known)) in
        let c = clock_of_ticks w.ticks in
        record {
          kind = w.kind;
          date = date_of (w.ticks / 864000000000);
          clock = clock_of w.ticks;
          kind_known = w.kind_known;
          is_date = o.is_date;
          year_most = year_most (date_of (w.ticks / 864000000000)) (omega (arith, o.number, w.ticks_known));
          is_clock = c.is_clock;
          bits = omega (arith, o.number, c.number, w.bits);
        }

    back : Dated x → Moment x
    back w = record {
      kind = w.kind;
      ticks = 864000000000 * days_before w.date + ticks_before w.clock;
      kind_known = w.kind_known;
      ticks_known = omega (arith, days_most w.date w.is_date w.year_most, clock_most w.clock w.is_clock);
      bits = w.bits;
    }

-- ---- what is shown

-- a time of day is found again, whatever the day
clock_again : (n : ℕ) (c : Clock) → IsClock c → clock_of (864000000000 * n + ticks_before c) ≡ c
unfolding clock_of
clock_again n c i =
    let hours : (864000000000 * n + ticks_before c) / 36000000000 % 24 ≡ c.hours = omega (arith, i.hours_most, i.minutes_most, i.seconds_most, i.ticks_most) in
    let minutes : (864000000000 * n + ticks_before c) / 600000000 % 60 ≡ c.minutes = omega (arith, i.minutes_most, i.seconds_most, i.ticks_most) in
    let seconds : (864000000000 * n + ticks_before c) / 10000000 % 60 ≡ c.seconds = omega (arith, i.seconds_most, i.ticks_most) in
    let ticks : (864000000000 * n + ticks_before c) % 10000000 ≡ c.ticks = omega (arith, i.ticks_most) in
    rw (hours, minutes, seconds, ticks)

-- the kind, the date and the time that are shown of the bits are theirs
pub dated_shown : (x : ℕ) (w : Dated x) → ShownAs x w
dated_shown x w = record {
  kind_is = omega (arith, w.bits, days, time);
  date_is = rw day (date_again w.date w.is_date (omega (arith, days)));
  clock_is = rw ticks (clock_again (days_before w.date) w.clock w.is_clock);
}
  where
    days : days_before w.date < 3652059
    days = days_most w.date w.is_date w.year_most

    time : ticks_before w.clock < 864000000000
    time = clock_most w.clock w.is_clock

    ticks : x % 4611686018427387904 ≡ 864000000000 * days_before w.date + ticks_before w.clock
    ticks = omega (arith, w.bits, days, time)

    day : x % 4611686018427387904 / 864000000000 ≡ days_before w.date
    day = omega (arith, ticks, time)
