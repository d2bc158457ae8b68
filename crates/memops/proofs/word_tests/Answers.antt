use Rattle.lowering.specs.Fragments.{align_test}
use Rattle.memops.proofs.Laws.{no_test, with_words}
use Rattle.memops.proofs.word_tests.Goals as goal

pub returns-then-tested : goal.returns-then-tested
returns-then-tested c = rw c.if-tested.true (with_words _ c.tbnz.ensures c.tbnz-then-tested.ensures)

pub returns-else-tested : goal.returns-else-tested
unfolding align_test
returns-else-tested c = rw c.if-tested.false (no_test _)
