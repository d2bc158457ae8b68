-- The invariant: the first i literals stand in the pool.
use Rattle.std.proofs.Common.{refl}
use Rattle.code.specs.Items.{halves}
use Rattle.asm.specs.State.{literals_from}
use Rattle.finish.specs.Finish.{write}
use Rattle.finish.proofs.Cases.{pool_more}
use Rattle.finish.proofs.pool.Goals as goal

pub loop-i-init : goal.loop-i-init
unfolding write halves literals_from
loop-i-init c = refl

pub loop-i-preserved : goal.loop-i-preserved
loop-i-preserved c = pool_more _ _ _ _ _ _ _ _ _ c.loop-i.invariant c.low.ensures c.high.ensures c.store.ensures c.store-in-loop-i.ensures
