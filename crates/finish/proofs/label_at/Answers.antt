-- A label that has no room stands nowhere.
use Rattle.std.proofs.Common.{arith, le-ltb, lt-ltb}
use Rattle.finish.specs.Finish.{label_in}
use Rattle.finish.proofs.label_at.Goals as goal

pub returns-then-n-lt-LABELS : goal.returns-then-n-lt-LABELS
unfolding label_in
returns-then-n-lt-LABELS c = (rw (lt-ltb _ _ c.if-n-lt-LABELS.true), omega arith)

pub returns : goal.returns
unfolding label_in
returns c = (rw (le-ltb _ _ c.if-n-lt-LABELS.false), omega arith)
