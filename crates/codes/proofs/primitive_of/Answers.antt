-- The definition asks for each number, in the order of the arms.
use borrow.Author.Rules.{rules}
use borrow.Author.Tests.{ne_eqb}
use Rattle.format.specs.Types.{primitive_of}
use Rattle.codes.proofs.primitive_of.Goals as goal

pub returns-in-1 : goal.returns-in-1
unfolding primitive_of
returns-in-1 c = rw c.in-1.is

pub returns-in-2 : goal.returns-in-2
unfolding primitive_of
returns-in-2 c = rw c.in-2.is

pub returns-in-3 : goal.returns-in-3
unfolding primitive_of
returns-in-3 c = rw c.in-3.is

pub returns-in-5 : goal.returns-in-5
unfolding primitive_of
returns-in-5 c = rw c.in-5.is

pub returns-in-6 : goal.returns-in-6
unfolding primitive_of
returns-in-6 c = rw c.in-6.is

pub returns-in-7 : goal.returns-in-7
unfolding primitive_of
returns-in-7 c = rw c.in-7.is

pub returns-in-8 : goal.returns-in-8
unfolding primitive_of
returns-in-8 c = rw c.in-8.is

pub returns-in-9 : goal.returns-in-9
unfolding primitive_of
returns-in-9 c = rw c.in-9.is

pub returns-in-10 : goal.returns-in-10
unfolding primitive_of
returns-in-10 c = rw c.in-10.is

pub returns-in-11 : goal.returns-in-11
unfolding primitive_of
returns-in-11 c = rw c.in-11.is

pub returns-in-12 : goal.returns-in-12
unfolding primitive_of
returns-in-12 c = rw c.in-12.is

pub returns-in-13 : goal.returns-in-13
unfolding primitive_of
returns-in-13 c = rw c.in-13.is

pub returns-in-14 : goal.returns-in-14
unfolding primitive_of
returns-in-14 c = rw c.in-14.is

pub returns-in-15 : goal.returns-in-15
unfolding primitive_of
returns-in-15 c = rw c.in-15.is

pub returns-in-16 : goal.returns-in-16
unfolding primitive_of
returns-in-16 c = rw c.in-16.is

pub returns-in_default : goal.returns-in_default
unfolding primitive_of
returns-in_default c = search (rules, ne_eqb)
