-- The definition asks for each type byte, in the order of the arms.
use borrow.Author.Rules.{rules}
use borrow.Author.Tests.{ne_eqb}
use Rattle.format.specs.Types.{slot_of}
use Rattle.slots.proofs.slot_of.Goals as goal

pub returns-in-0 : goal.returns-in-0
unfolding slot_of
returns-in-0 c = rw (c.in-0.is, c.coded_of.ensures, c.primitive_of.ensures)

pub returns-in-1 : goal.returns-in-1
unfolding slot_of
returns-in-1 c = rw c.in-1.is

pub returns-in-2 : goal.returns-in-2
unfolding slot_of
returns-in-2 c = rw c.in-2.is

pub returns-in-3 : goal.returns-in-3
unfolding slot_of
returns-in-3 c = rw c.in-3.is

pub returns-in-4 : goal.returns-in-4
unfolding slot_of
returns-in-4 c = rw c.in-4.is

pub returns-in-5 : goal.returns-in-5
unfolding slot_of
returns-in-5 c = rw c.in-5.is

pub returns-in-6 : goal.returns-in-6
unfolding slot_of
returns-in-6 c = rw c.in-6.is

pub returns-in_default : goal.returns-in_default
unfolding slot_of
returns-in_default c = rw (c.coded_of-in_default.ensures, c.primitive_of-in_default.ensures) (search (rules, ne_eqb))
