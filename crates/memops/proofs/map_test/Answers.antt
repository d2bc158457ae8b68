use Rattle.lowering.specs.Fragments.{map_test}
use Rattle.memops.proofs.Laws.{no_test, with_map}
use Rattle.memops.proofs.map_test.Goals as goal

pub returns-then-map : goal.returns-then-map
returns-then-map c = rw c.if-map.true (with_map _ (c.ins.ensures _ c.bitfield.ensures) c.indexed.ensures c.cbnz.ensures)

pub returns-else-map : goal.returns-else-map
unfolding map_test
returns-else-map c = rw c.if-map.false (no_test _)
