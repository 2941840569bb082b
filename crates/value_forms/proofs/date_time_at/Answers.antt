-- One law for each answer, from the number that is read.
use Rattle.std.proofs.Common.{rules, sym}
use native.Mathlib.Omega.{arith}
use Rattle.fields.specs.Tried.{found, missing}
use Rattle.value_forms.specs.Ends.{date_short, date_kind, date_ticks, date_end}
use Rattle.value_forms.proofs.date_time_at.Goals as goal

pub returns-in_err-x : goal.returns-in_err-x
returns-in_err-x c =
    let w = missing _ c.u64_at.ensures c.in_err-x.ensures.value in
    rw (date_short _ _ w.0, sym w.1) (search rules)

pub returns-then-x-ge3 : goal.returns-then-x-ge3
returns-then-x-ge3 c = sym (date_kind _ _ _ _ (found _ c.u64_at.ensures c.in_ok-x.ensures.value) (omega arith))

pub returns-then-x-gt3155378975999999999 : goal.returns-then-x-gt3155378975999999999
returns-then-x-gt3155378975999999999 c = sym (date_ticks _ _ _ _ (found _ c.u64_at.ensures c.in_ok-x.ensures.value) (omega arith) (omega arith))

pub returns : goal.returns
returns c = sym (date_end _ _ _ _ (found _ c.u64_at.ensures c.in_ok-x.ensures.value) (omega arith) (omega arith))
