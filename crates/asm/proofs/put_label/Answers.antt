-- A label that has no room is not stored.
use borrow.Author.Tests.{lt-ltb, le-ltb}
use Rattle.asm.specs.State.{labelled}
use Rattle.asm.proofs.put_label.Goals as goal

pub returns-then-n-lt-LABELS : goal.returns-then-n-lt-LABELS
unfolding labelled
returns-then-n-lt-LABELS c = rw (lt-ltb _ _ c.if-n-lt-LABELS.true)

pub returns-else-n-lt-LABELS : goal.returns-else-n-lt-LABELS
unfolding labelled
returns-else-n-lt-LABELS c = rw (le-ltb _ _ c.if-n-lt-LABELS.false)
