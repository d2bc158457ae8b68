-- The field of each number, and B19 for any other.
use borrow.Author.Tests.{ne_eqb}
use Rattle.asm.specs.State.{fix_of}
use Rattle.asm.proofs.fix_of.Goals as goal

pub returns-in-0 : goal.returns-in-0
unfolding fix_of
returns-in-0 c = rw c.in-0.is

pub returns-in-2 : goal.returns-in-2
unfolding fix_of
returns-in-2 c = rw c.in-2.is

pub returns-in-3 : goal.returns-in-3
unfolding fix_of
returns-in-3 c = rw c.in-3.is

pub returns-in_default : goal.returns-in_default
unfolding fix_of
returns-in_default c = let n = c.in_default.in_default-own.rest in rw (ne_eqb _ 0 n.0.0.1, ne_eqb _ 2 n.0.1, ne_eqb _ 3 n.1)
