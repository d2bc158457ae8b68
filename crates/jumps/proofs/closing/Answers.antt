use Rattle.lowering.specs.Fragments.{closing}
use Rattle.jumps.proofs.Laws.{seven}
use Rattle.jumps.proofs.closing.Goals as goal

pub returns : goal.returns
unfolding closing
returns c =
    seven _ _ _ _ _ _ _ c.pair.ensures c.pair-2.ensures c.pair-3.ensures c.pair-4.ensures c.pair-5.ensures c.pair-6.ensures (c.ins.ensures _ c.branch_reg.ensures)
