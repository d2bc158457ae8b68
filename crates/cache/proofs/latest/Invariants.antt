-- The invariant of the loop, in Order.antt: so far the order is that behind the use, and slot i was met or not.
use Rattle.cache.proofs.Order.{Sofar}
use Rattle.cache.proofs.latest.Given as goal

abbrev pub invariant-loop-k : goal.invariant-loop-k
invariant-loop-k l = Sofar l.i l.initial.order l.order l.met l.k
