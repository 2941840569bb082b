-- The first tidying says what its output holds, and its front is the copy of the first list; `against` says the rest.
use Rattle.std.specs.Prelude.{◌≡◌, ◌-◌}
use Rattle.std.proofs.Common.{arith}
use Rattle.sameness.proofs.Laws.{first_written, kept}
use Rattle.num.specs.Le.{Bytes}
use Rattle.sameness.proofs.say_the_same.Goals as goal

pub returns : goal.returns
returns c =
    let byte : Bytes c.args.a.now = λ i. (c.type_inv.a i).fits in
    let booked : Bytes c.args.a_book.now = λ i. (c.type_inv.a_book i).fits in
    let octet : Bytes c.args.b.now = λ i. (c.type_inv.b i).fits in
    let other : Bytes c.args.b_book.now = λ i. (c.type_inv.b_book i).fits in
    let h = kept c.tidy.result c.in_ok-m.m c.in_ok-m.ensures.cases in
    let k : c.in_ok-m.m - 0 ≡ c.in_ok-m.m = omega arith in
    first_written _ _ c.args.a.now c.args.b.now c.args.table.now c.args.first.now c.args.second.now c.tidy.new.table c.tidy.new.out _ c.tidy.ensures
    booked byte other octet c.tidy.auto.table _ h _ _ _ (rw k c.against.ensures)
