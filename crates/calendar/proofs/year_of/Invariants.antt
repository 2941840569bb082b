-- The days that are left, from this year on, give the year of all; each year passed took 365 days or more, so that the last sum fits.
use Rattle.std.proofs.Common.{◌≡◌, ◌+◌, ◌*◌, ◌-◌, ◌≤◌}
use Rattle.calendar.specs.Calendar.{year_from, year_of}
use Rattle.calendar.proofs.year_of.Given as goal

abbrev pub invariant-loop-year : goal.invariant-loop-year
invariant-loop-year l = (l.left + 365 * (l.year - 1) ≤ l.day) × (year_of l.day ≡ year_from (60000 - l.year) l.year l.left)
