use Rattle.memops.proofs.Laws.{ram-store}
use Rattle.memops.proofs.store_ram.Goals as goal

pub returns : goal.returns
returns c =
    let a = c.args in
    ram-store a.mem _ a.alone _ _ _ _ _ c.bytes.ensures c.room.ensures c.stores.ensures
    c.align_test.ensures c.mov32.ensures c.sub.ensures c.mov32-2.ensures c.cmp.ensures c.b_cond.ensures c.map_test.ensures c.indexed.ensures c.b.ensures
