use Rattle.jumps.proofs.Laws.{six}
use Rattle.jumps.proofs.saves.Goals as goal

pub returns : goal.returns
returns c = six _ _ _ _ _ _ c.pair.ensures c.pair-2.ensures c.pair-3.ensures c.pair-4.ensures c.pair-5.ensures c.pair-6.ensures
