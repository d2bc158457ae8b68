use Rattle.lowering.specs.Fragments.{hold}
use Rattle.emission.proofs.Writes.{writes-nothing, writes-more}
use Rattle.jumps.proofs.hold.Goals as goal

pub returns-then-glue : goal.returns-then-glue
unfolding hold
returns-then-glue c = rw c.if-glue.true (writes-more _ _ c.mov32.ensures c.str.ensures)

pub returns-else-glue : goal.returns-else-glue
unfolding hold
returns-else-glue c = rw c.if-glue.false writes-nothing
