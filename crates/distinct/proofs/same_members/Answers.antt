-- Invariant: the members that are left answer what all of them answer; the place of a type byte is one further with each.
use Rattle.std.proofs.Common.{◌≡◌, ℕ, ◌+◌, ◌-◌, sym, ap, ◌∙◌, arith, not}
use borrow.Author.Tests.{not-true, not-false}
use Rattle.distinct.specs.Equal.{members_end, members_more, members_other}
use Rattle.distinct.specs.declared.Cursor.{Cursor}
use Rattle.distinct.proofs.same_members.Goals as goal

pub returns-then-not-same_member : goal.returns-then-not-same_member
returns-then-not-same_member c = sym (members_other _ _ _ _ _ _ _ _ (omega arith) c.next_member-after_one.ensures c.next_member-after_other.ensures c.same_member.ensures (not-true _ (ap not c.if-not-same_member.true))) ∙ c.loop.invariant.2

pub loop-preserved : goal.loop-preserved
loop-preserved c =
    let u : c.next_member-after_one.result.kind ≡ c.loop.one.kind + 1 = ap (λ (x : Cursor). x.kind) c.next_member-after_one.ensures in
    let v : c.next_member-after_other.result.kind ≡ c.loop.other.kind + 1 = ap (λ (x : Cursor). x.kind) c.next_member-after_other.ensures in
    let m : c.args.count - (c.loop.counter + 1) ≡ c.args.count - c.loop.counter - 1 = omega arith in
    (omega arith, omega arith, rw m (sym (members_more _ _ _ _ _ _ _ _ (omega arith) c.next_member-after_one.ensures c.next_member-after_other.ensures c.same_member.ensures (not-false _ (ap not c.if-not-same_member.false))) ∙ c.loop.invariant.2))

pub returns : goal.returns
returns c = sym (members_end _ _ _ _ _ (omega arith)) ∙ c.loop.invariant.2
