-- The count stops at its end.
use borrow.Author.Tests.{lt-ltb, le-ltb}
use native.Mathlib.Numerals.{add-one}
use Rattle.code.specs.Calls.{bumped}
use Rattle.asm.proofs.bump.Goals as goal

pub returns-then-n-lt1048576 : goal.returns-then-n-lt1048576
unfolding bumped
returns-then-n-lt1048576 c = simp (lt-ltb _ _ c.if-n-lt1048576.true, add-one)

pub returns-else-n-lt1048576 : goal.returns-else-n-lt1048576
unfolding bumped
returns-else-n-lt1048576 c = simp (le-ltb _ _ c.if-n-lt1048576.false)
