use Rattle.memops.proofs.Laws.{region}
use Rattle.memops.proofs.try_region.Goals as goal

pub returns : goal.returns
returns c =
    region _ _ _ _ _ _ _ _ _ _ c.bytes.ensures c.room.ensures c.loads.ensures
    c.mov32.ensures c.sub.ensures c.even.ensures c.mov32-2.ensures c.cmp.ensures c.b_cond.ensures c.indexed.ensures c.b.ensures
