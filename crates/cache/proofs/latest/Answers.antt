-- The invariant of the loop, in Order.antt: so far the order is that behind the use, and slot i was met or not.
use native.Mathlib.Omega.{arith}
use mathlib.Core.Path.{◌≡◌, subst}
use Rattle.cache.proofs.Order.{Sofar, turn_on, turn_off, kept_last}
use Rattle.cache.proofs.latest.Goals as goal
use Rattle.cache.proofs.latest.Goals.{then-met, else-met}

pub loop-k-preserved : goal.loop-k-preserved
loop-k-preserved c =
    let l = c.loop-k in
    let on = turn_on _ _ _ _ _ l.invariant (omega arith) in
    let off = turn_off _ _ _ _ _ l.invariant (omega arith) in
    elim c.if-met.branch [ then-met w ↦ on _ w.if-met.true w.order-is | else-met w ↦ off _ w.if-met.false w.order-is ]

pub returns-else-met-2 : goal.returns-else-met-2
returns-else-met-2 c =
    let l = c.loop-k in
    let e : l.k ≡ 7 = omega arith in
    kept_last _ _ _ _ (subst (Sofar _ _ l.order l.met) e l.invariant) c.if-met-2.false
