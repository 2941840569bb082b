-- One law for each way.
use native.Mathlib.Omega.{arith}
use mathlib.Core.Path.{sym}
use Rattle.slots.specs.Slots.{moved_alike, moved_booked, moved_on}
use Rattle.slots.proofs.move_on.Goals as goal

pub returns-then-types-eq0 : goal.returns-then-types-eq0
returns-then-types-eq0 c = sym (moved_alike _ _ _ c.if-types-eq0.true)

pub returns-then-t-eq0 : goal.returns-then-t-eq0
returns-then-t-eq0 c = rw (c.booked_at-next.ensures, c.next_booked.ensures) (sym (moved_booked _ _ _ c.if-types-eq0.false c.if-t-eq0.true))

pub after_info-infos-requires : goal.after_info-infos-requires
after_info-infos-requires c = omega arith

pub next_place-requires : goal.next_place-requires
next_place-requires c = omega arith

pub returns : goal.returns
returns c =
    rw (c.typed_at-next.ensures, c.next_place.ensures, c.after_info-infos.ensures, c.byte_at.ensures)
    (sym (moved_on _ _ _ c.if-types-eq0.false c.if-t-eq0.false))
