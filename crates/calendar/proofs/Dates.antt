-- What holds of the date of a day number: it is a date of the calendar, as many days as the number come before it, and no other date has so many.
-- Who believes the days of years and months need not believe how the date is found.
use Prim.Native.Nat.{ℕ, zero, suc, ◌+◌, ◌-◌, ◌*◌, ◌/◌, ◌%◌, ◌≤◌, ◌<◌}
use Rattle.std.specs.Prelude.{◌≡◌, refl, Bool, true, false}
use Rattle.std.proofs.Common.{sym, ap, ◌∙◌, mul-add, mul_assoc}
use native.Mathlib.Omega.{arith}
use Rattle.std.proofs.Math.Nat.{div-add-mod, div-div-eq-div-mul}
use Rattle.std.proofs.Math.Decide.{dec_lt, dec_le}
use Rattle.format.specs.Bytes.{pick}
use Rattle.calendar.specs.declared.DayOfYear.{DayOfYear}
use Rattle.calendar.specs.declared.Date.{Date}
use Rattle.calendar.specs.Calendar.{leap_year, days_of_year, days_of_month, year_from, year_of, month_from, month_of, date_of, clock_of}
use Rattle.calendar.specs.Dates.{total, IsDate, days_before, DateOf, ClockOf}
use Rattle.calendar.specs.Laws.{year_least, year_here, year_passed, year_last, month_here, month_passed, month_last}

-- ---- sums

module _ (f : ℕ → ℕ) where
  pub total_more : (n : ℕ) → 1 ≤ n → total f n ≡ total f (n - 1) + f n
  unfolding total
  total_more zero h = absurd (omega arith)
  total_more (suc n) h = let d : suc n - 1 ≡ n = omega arith in rw d

  pub total_grows : (a b : ℕ) → a ≤ b → total f a ≤ total f b
  unfolding total
  total_grows a zero h = let e : a ≡ 0 = omega arith in rw e (omega arith)
  total_grows a (suc b) h = go (total_grows a b) (dec_le a b)
    where
      go : (a ≤ b → total f a ≤ total f b) → Dec (a ≤ b) → total f a ≤ total f b + f (suc b)
      go more (yes g) = omega (arith, more g)
      go more (no g) = let e : a ≡ suc b = omega arith in rw e (omega arith)

  -- a part that begins earlier ends before
  total_apart : (a b x : ℕ) → 1 ≤ a → a < b → x < f a → total f (a - 1) + x < total f (b - 1)
  total_apart a b x h g l = omega (arith, total_more a h, total_grows a (b - 1) (omega arith))

  total_same : (a b x y : ℕ) → 1 ≤ a → 1 ≤ b → x < f a → y < f b → total f (a - 1) + x ≡ total f (b - 1) + y → a ≡ b
  total_same a b x y h g l m e = go (dec_lt a b) (dec_lt b a)
    where
      go : Dec (a < b) → Dec (b < a) → a ≡ b
      go (yes p) q = absurd (omega (arith, total_apart a b x h p l))
      go (no p) (yes q) = absurd (omega (arith, total_apart b a y g q m))
      go (no p) (no q) = omega arith

-- ---- years

-- a day of its year, with n days before it
record InYear (n : ℕ) (r : DayOfYear) : Type 0 where
  pub first_year : 1 ≤ r.year
  pub day_least : 1 ≤ r.day
  pub day_most : r.day ≤ days_of_year r.year
  pub number : total days_of_year (r.year - 1) + (r.day - 1) ≡ n

this_year : (year left n : ℕ) → 1 ≤ year → left < days_of_year year → total days_of_year (year - 1) + left ≡ n
    → InYear n (record { year = year; day = left + 1 })
this_year year left n y h e =
    let d : left + 1 - 1 ≡ left = omega arith in
    record { first_year = y; day_least = omega arith; day_most = omega arith; number = rw d e }

in_year : (k year left n : ℕ) → 1 ≤ year → left < 365 * suc k → total days_of_year (year - 1) + left ≡ n → InYear n (year_from k year left)
in_year zero year left n y h e = rw (year_last 0 year left (omega arith)) (this_year year left n y (omega (arith, year_least year)) e)
in_year (suc k) year left n y h e = go (in_year k (year + 1) (left - days_of_year year) n (omega arith)) (dec_lt left (days_of_year year))
  where
    Later : Type 0
    Later = left - days_of_year year < 365 * suc k → total days_of_year (year + 1 - 1) + (left - days_of_year year) ≡ n
        → InYear n (year_from k (year + 1) (left - days_of_year year))

    go : Later → Dec (left < days_of_year year) → InYear n (year_from (suc k) year left)
    go later (yes g) = rw (year_here (suc k) year left (omega arith) g) (this_year year left n y g e)
    go later (no g) =
        let d : year + 1 - 1 ≡ year = omega arith in
        rw (year_passed (suc k) k year left (days_of_year year) refl refl (omega arith))
        (later (omega (arith, year_least year)) (rw d (omega (arith, total_more days_of_year year y))))

year_of_day : (n : ℕ) → n < 21900000 → InYear n (year_of n)
unfolding year_of total
year_of_day n h = in_year 59999 1 n n (omega arith) (omega arith) (omega arith)

-- ---- months

-- the months of a year have its days
pub months_of_year : (year : ℕ) → total (days_of_month year) 12 ≡ days_of_year year
unfolding total days_of_month days_of_year
months_of_year year = go (leap_year year)
  where
    go : (t : Bool) → 31 + pick t 29 28 + 31 + 30 + 31 + 30 + 31 + 31 + 30 + 31 + 30 + 31 ≡ pick t 366 365
    go true = refl
    go false = refl

-- a date that is the n-th day of its year
record InMonth (year n : ℕ) (d : Date) : Type 0 where
  pub same_year : d.year ≡ year
  pub is_date : IsDate d
  pub number : total (days_of_month year) (d.month - 1) + d.day ≡ n

module _ (year n : ℕ) (first : 1 ≤ year) (top : n ≤ total (days_of_month year) 12) where
  this_month : (month left : ℕ) → 1 ≤ month → month ≤ 12 → 1 ≤ left → left ≤ days_of_month year month
      → total (days_of_month year) (month - 1) + left ≡ n → InMonth year n (record { year = year; month = month; day = left })
  this_month month left m w l h e = record {
    same_year = refl;
    is_date = record { year_least = first; month_least = m; month_most = w; day_least = l; day_most = h };
    number = e;
  }

  in_month : (k month left : ℕ) → 1 ≤ month → month + k ≡ 12 → 1 ≤ left → total (days_of_month year) (month - 1) + left ≡ n
      → InMonth year n (month_from k year month left)
  in_month zero month left m w l e =
      let t : month ≡ 12 = omega arith in
      let s : n ≤ total (days_of_month year) month = rw t top in
      rw (month_last 0 year month left (omega arith))
      (this_month month left m (omega arith) l (omega (arith, total_more (days_of_month year) month m)) e)
  in_month (suc k) month left m w l e =
      go (in_month k (month + 1) (left - days_of_month year month) (omega arith) (omega arith)) (dec_le left (days_of_month year month))
    where
      Later : Type 0
      Later = 1 ≤ left - days_of_month year month → total (days_of_month year) (month + 1 - 1) + (left - days_of_month year month) ≡ n
          → InMonth year n (month_from k year (month + 1) (left - days_of_month year month))

      go : Later → Dec (left ≤ days_of_month year month) → InMonth year n (month_from (suc k) year month left)
      go later (yes g) = rw (month_here (suc k) year month left (omega arith) g) (this_month month left m (omega arith) l g e)
      go later (no g) =
          let d : month + 1 - 1 ≡ month = omega arith in
          rw (month_passed (suc k) k year month left (days_of_month year month) refl refl (omega arith))
          (later (omega arith) (rw d (omega (arith, total_more (days_of_month year) month m))))

month_of_day : (year n : ℕ) → 1 ≤ year → 1 ≤ n → n ≤ days_of_year year → InMonth year n (month_of year n)
unfolding month_of total
month_of_day year n y l h = in_month year n y (rw (months_of_year year) h) 11 1 n (omega arith) refl l (omega arith)

-- ---- the date of a day number

-- 21,900,000 days are 60,000 years of 365 days
pub date_of_day : (n : ℕ) → n < 21900000 → DateOf n (date_of n)
unfolding date_of
date_of_day n h = go (year_of n) (year_of_day n h)
  where
    here : (y : DayOfYear) → InYear n y → (d : Date) → InMonth y.year y.day d → DateOf n d
    here y i d m = record { is_date = m.is_date; number = rw m.same_year (omega (arith, m.number, i.number, m.is_date.day_least)) }

    go : (y : DayOfYear) → InYear n y → DateOf n (month_of y.year y.day)
    go y i = here y i (month_of y.year y.day) (month_of_day y.year y.day i.first_year i.day_least i.day_most)

-- so every count of ticks that fits eight bytes has its date
pub date_of_ticks : (ticks : ℕ) → ticks < 18446744073709551616 → DateOf (ticks / 864000000000) (date_of (ticks / 864000000000))
date_of_ticks ticks h = date_of_day (ticks / 864000000000) (omega arith)

-- ---- no two dates have the same number

pub within_year : (d : Date) → IsDate d → total (days_of_month d.year) (d.month - 1) + (d.day - 1) < days_of_year d.year
within_year d i =
    omega (
      arith,
      i.day_least,
      i.day_most,
      total_more (days_of_month d.year) d.month i.month_least,
      total_grows (days_of_month d.year) d.month 12 i.month_most,
      months_of_year d.year,
    )

same_year : (d e : Date) → IsDate d → IsDate e → days_before d ≡ days_before e → d.year ≡ e.year
same_year d e i j s =
    total_same days_of_year d.year e.year (total (days_of_month d.year) (d.month - 1) + (d.day - 1))
    (total (days_of_month e.year) (e.month - 1) + (e.day - 1)) i.year_least j.year_least (within_year d i) (within_year e j) (omega arith)

same_fields : (y m x z n w : ℕ) → y ≡ z → m ≡ n → x ≡ w
    → ◌≡◌ {A = Date} (record { year = y; month = m; day = x }) (record { year = z; month = n; day = w })
same_fields y m x z n w a b c = rw (a, b, c)

pub one_date : (d e : Date) → IsDate d → IsDate e → days_before d ≡ days_before e → d ≡ e
one_date d e i j s =
    let y : d.year ≡ e.year = same_year d e i j s in
    let l : d.day ≤ days_of_month e.year d.month = rw y at i.day_most in
    let t : total days_of_year (e.year - 1) + total (days_of_month e.year) (d.month - 1) + (d.day - 1) ≡ days_before e = rw y at s in
    let m : d.month ≡ e.month =
    total_same (days_of_month e.year) d.month e.month (d.day - 1) (e.day - 1) i.month_least j.month_least
    (omega (arith, i.day_least)) (omega (arith, j.day_least, j.day_most)) (omega arith) in
    let r : total days_of_year (e.year - 1) + total (days_of_month e.year) (e.month - 1) + (d.day - 1) ≡ days_before e = rw m at t in
    same_fields d.year d.month d.day e.year e.month e.day y m (omega (arith, i.day_least, j.day_least))

-- and every date within the bound is found
pub date_again : (d : Date) → IsDate d → days_before d < 21900000 → date_of (days_before d) ≡ d
date_again d i h = let o = date_of_day (days_before d) h in one_date (date_of (days_before d)) d o.is_date i o.number

-- ---- the time of day

-- f units of d, and what is no whole unit
units : (n d f : ℕ) → d * (n / d % f) + n % d ≡ n % (d * f)
units n d f =
    let b : d * (n / d) ≡ d * (f * (n / d / f)) + d * (n / d % f) = ap (λ (x : ℕ). d * x) (sym (div-add-mod (n / d) f)) ∙ mul-add d (f * (n / d / f)) (n / d % f) in
    let e : d * f * (n / (d * f)) ≡ d * (f * (n / d / f)) = rw (← div-div-eq-div-mul n d f) (mul_assoc d f (n / d / f)) in
    omega (arith, div-add-mod n d, div-add-mod n (d * f))

pub clock_of_ticks : (n : ℕ) → ClockOf n (clock_of n)
unfolding clock_of
clock_of_ticks n = record {
  is_clock = record { hours_most = omega arith; minutes_most = omega arith; seconds_most = omega arith; ticks_most = omega arith };
  number = let s : 10000000 * (n / 10000000 % 60) + n % 10000000 ≡ n % 600000000 = units n 10000000 60 in
      let m : 600000000 * (n / 600000000 % 60) + n % 600000000 ≡ n % 36000000000 = units n 600000000 60 in
      let h : 36000000000 * (n / 36000000000 % 24) + n % 36000000000 ≡ n % 864000000000 = units n 36000000000 24 in
      rw (← h, ← m, ← s) (omega arith);
}
