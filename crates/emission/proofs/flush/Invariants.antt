-- So far i slots are done: what is left of them, written from here, ends as all of them from the start.
use Rattle.emission.proofs.Slots.{left, Onward}
use Rattle.emission.proofs.flush.Given as goal

abbrev pub invariant-loop-i : goal.invariant-loop-i
invariant-loop-i l = let rc = l.g.rc in Onward (left l.g.lay rc.guest rc.dirty 0) (left l.g.lay rc.guest rc.dirty l.i) l.initial.asm l.asm
