use Rattle.jumps.proofs.Laws.{seven}
use Rattle.jumps.proofs.arguments.Goals as goal

pub returns : goal.returns
returns c =
    seven _ _ _ _ _ _ _ c.mov_x.ensures c.mov_x-2.ensures c.mov_x-3.ensures c.mov_x-4.ensures c.mov.ensures c.mov_x-5.ensures (c.ins.ensures _ c.move_wide.ensures)
