-- A group is laid over the front and the rest handed on: the law `handed` joins the two.
use mathlib.Core.Path.{refl, ap}
use mathlib.Core.List.{[], ◌∷◌}
use lib.ListN.{length, length-set, length-take, length-drop}
use Rattle.format.specs.Prefix.{groups_of}
use Rattle.prefix.specs.Groups.{groups_last, groups_next, groups_room, groups_some}
use Rattle.prefix.specs.Writing.{laid_one, handed}
use native.Mathlib.Omega.{arith}
use Prim.Native.Nat.{◌+◌, ◌-◌, ◌/◌, ◌%◌, ◌<◌}
use Rattle.prefix.proofs.+put_groups.Goals as goal

pub bounds-out-0 : goal.bounds-out-0
bounds-out-0 t c = omega (arith, groups_some c.args.k c.args.n)

pub returns-then-n-lt128 : goal.returns-then-n-lt128
returns-then-n-lt128 t c =
    let a = c.args in
    let h : 0 < length a.out.now = omega (arith, groups_some a.k a.n) in
    rw (groups_last a.k a.n (omega arith)) (laid_one a.n a.out.now h)

pub bounds-out-0-2 : goal.bounds-out-0-2
bounds-out-0-2 t c = omega (arith, groups_some c.args.k c.args.n)

pub slice_bounds-put_groups-count : goal.slice_bounds-put_groups-count
slice_bounds-put_groups-count t c = simp length-set (omega (arith, groups_some c.args.k c.args.n))

pub slice_bounds-put_groups-start : goal.slice_bounds-put_groups-start
slice_bounds-put_groups-start t c = simp length-set (omega (arith, groups_some c.args.k c.args.n))

pub put_groups-requires : goal.put_groups-requires
put_groups-requires t c =
    let a = c.args in
    let r = groups_room a.k a.n (omega arith) (omega arith) in
    let g = ap length (groups_next a.k a.n r.0 (omega arith)) in
    (omega arith, (r.1, simp (length-take, length-drop, length-set) (omega arith)))

pub returns : goal.returns
returns t c =
    let a = c.args in
    let h : 0 < length a.out.now = omega (arith, groups_some a.k a.n) in
    let r = groups_room a.k a.n (omega arith) (omega arith) in
    rw
    (groups_next a.k a.n r.0 (omega arith))
    (handed 1 ((128 + a.n % 128) ∷ []) (groups_of (a.k - 1) (a.n / 128)) a.out.now _ _ refl (laid_one _ _ h) c.put_groups.ensures)
