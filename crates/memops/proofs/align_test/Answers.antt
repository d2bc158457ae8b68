use Rattle.code.specs.Tree.{inner, inside, nowhere}
use Rattle.lowering.specs.Fragments.{align_test}
use Rattle.emission.proofs.Writes.{writes-to}
use Rattle.memops.proofs.Laws.{no_test}
use Rattle.memops.proofs.align_test.Goals as goal

pub returns-in-Byte : goal.returns-in-Byte
unfolding align_test
returns-in-Byte c = rw c.in-Byte.is (no_test _)

pub returns-in-Half : goal.returns-in-Half
unfolding align_test
returns-in-Half c = rw c.in-Half.is (writes-to (inside _ nowhere) 0 _ inner c.tbnz.ensures)
