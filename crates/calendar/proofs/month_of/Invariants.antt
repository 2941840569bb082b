-- The days that are left, from this month on, give the date of all.
use Rattle.std.proofs.Common.{◌≡◌, ◌-◌}
use Rattle.calendar.specs.Calendar.{month_from, month_of}
use Rattle.calendar.proofs.month_of.Given as goal

abbrev pub invariant-loop-month : goal.invariant-loop-month
invariant-loop-month l = month_of l.year l.fn.day ≡ month_from (12 - l.month) l.year l.month l.left
