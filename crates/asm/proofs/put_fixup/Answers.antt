-- A fix-up that has no room is not stored.
use borrow.Author.Tests.{lt-ltb, le-ltb}
use Rattle.asm.specs.State.{fixup, packed}
use Rattle.asm.proofs.put_fixup.Goals as goal

pub returns-then-n-lt-FIXUPS : goal.returns-then-n-lt-FIXUPS
unfolding fixup packed
returns-then-n-lt-FIXUPS c = rw (lt-ltb _ _ c.if-n-lt-FIXUPS.true, ← c.ref_number.ensures)

pub returns-else-n-lt-FIXUPS : goal.returns-else-n-lt-FIXUPS
unfolding fixup packed
returns-else-n-lt-FIXUPS c = rw (le-ltb _ _ c.if-n-lt-FIXUPS.false)
